-- What was read is a list of edits, and its report is shown.
use Rattle.std.proofs.Common.{ℕ, List, IfOk, sym, subst}
use Rattle.wb_compose_texts.specs.Unions.{all_resolved}
use Rattle.wb_program_texts.specs.Commands.Edit.{TextEditsReport}
use Rattle.wb_program_texts.specs.Inner.EditFiles.{ReadList, ShownList}
use Rattle.wb_program_files.specs.declared.files.Contents.{Contents}
use Rattle.wb_program_texts.proofs.edit.answer_contents.Goals as goal

pub returns-in-Whole : goal.returns-in-Whole
returns-in-Whole c =
    let host = c.args.host.now in
    let file = c.args.file.now in
    let rest = TextEditsReport host.operations host.resolved (all_resolved c.args.extensions.now) file c.args.text.now in
    subst (λ (contents : Contents). IfOk c.answer_list.result (λ answer. ReadList file rest contents answer.status answer.report.items))
    (sym c.in-Whole.is)
    (subst (λ (bytes : List ℕ). IfOk c.answer_list.result (λ answer. ShownList file rest bytes answer.status answer.report.items))
    c.deref.ensures.value c.answer_list.ensures)

pub returns-in-TooLong : goal.returns-in-TooLong
returns-in-TooLong c =
    let host = c.args.host.now in
    let file = c.args.file.now in
    let rest = TextEditsReport host.operations host.resolved (all_resolved c.args.extensions.now) file c.args.text.now in
    subst (λ (contents : Contents). IfOk c.refused.result (λ answer. ReadList file rest contents answer.status answer.report.items))
    (sym c.in-TooLong.is) c.refused.ensures
