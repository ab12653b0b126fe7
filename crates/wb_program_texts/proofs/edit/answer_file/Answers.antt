-- The report of what was read of the edits is that of their file.
use Rattle.std.proofs.Common.{List}
use Rattle.wb_compose_texts.specs.Unions.{all_resolved}
use Rattle.wb_program_texts.specs.Commands.Edit.{TextEditsReport}
use Rattle.wb_program_texts.proofs.EditLemmas.{list_checks}
use Rattle.wb_program_files.proofs.MakesLemmas.{answered, exhausted, handed}
use Rattle.wb_program_texts.proofs.edit.answer_file.Goals as goal

pub returns : goal.returns
returns g c =
    let host = c.args.host.now in
    let answer = c.in_ok-answer_contents.field-0 in
    answered answer
    (list_checks (g.S.Shelf.files c.args.shelf.now) c.args.file.now
    (TextEditsReport host.operations host.resolved (all_resolved c.args.extensions.now) c.args.file.now c.args.text.now)
    answer.status answer.report.items c.in_ok-contents.contents c.in_ok-contents.ensures.ok c.in_ok-answer_contents.ensures)
    c.read_file.ensures.goes_on

pub returns-in_err-answer_contents : goal.returns-in_err-answer_contents
returns-in_err-answer_contents g c =
    exhausted c.from_residual-in_err-answer_contents.result c.from_residual-in_err-answer_contents.ensures.1
    c.read_file.ensures.goes_on

pub returns-in_err-contents : goal.returns-in_err-contents
returns-in_err-contents g c =
    handed c.from_residual.result c.in_err-contents.field-0.0 c.from_residual.ensures.1 c.in_err-contents.ensures.stopped
    c.read_file.ensures.goes_on
