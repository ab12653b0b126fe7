-- The report of what was read is that of the file.
use Rattle.std.proofs.Common.{ℕ, List, None}
use Rattle.wb_operations.specs.Operations.{Operations}
use Rattle.wb_compose_texts.specs.Unions.{all_resolved}
use Rattle.wb_program_files.proofs.FileLemmas.{text_checks}
use Rattle.wb_program_files.proofs.MakesLemmas.{answered, handed, exhausted}
use Rattle.wb_program_texts.specs.Inner.Sources.{shown_with}
use Rattle.wb_program_texts.specs.Values.{TextValueReport}
use Rattle.wb_program_texts.proofs.asked.file_answer.Goals as goal

pub returns : goal.returns
returns g c =
    let operations : Operations = record { signatures = c.args.operations.now.signatures; meaning = g.M.Meaning.meaning } in
    let asked = c.args.asked.now in
    let name = asked.name.now in
    let answer = c.in_ok-contents_answer.field-0 in
    answered answer (text_checks (g.S.Shelf.files c.args.shelf.now) c.args.file.now
    (λ (text : List ℕ). TextValueReport operations asked.host.now.resolved (all_resolved asked.extensions.now) name c.args.steps
    (shown_with name 0 None) text) c.in_ok-contents.contents answer.status answer.report.items c.in_ok-contents.ensures.ok
    c.in_ok-contents_answer.ensures) c.read_file.ensures.goes_on

pub returns-in_err-contents_answer : goal.returns-in_err-contents_answer
returns-in_err-contents_answer g c =
    exhausted c.from_residual-in_err-contents_answer.result c.from_residual-in_err-contents_answer.ensures.1 c.read_file.ensures.goes_on

pub returns-in_err-contents : goal.returns-in_err-contents
returns-in_err-contents g c =
    handed c.from_residual.result c.in_err-contents.field-0.0 c.from_residual.ensures.1 c.in_err-contents.ensures.stopped
    c.read_file.ensures.goes_on
