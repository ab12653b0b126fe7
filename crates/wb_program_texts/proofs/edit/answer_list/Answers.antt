-- A list of edits has the report of what becomes of the text, and other bytes are refused at their first fault.
use Rattle.std.proofs.Common.{◌≡◌, List, inl, inr, subst}
use Rattle.wb_compose_texts.specs.Unions.{all_resolved}
use Rattle.wb_report.specs.declared.edits_reason.EditsReason.TheVariants as u
use Rattle.wb_session_edits.specs.Edits.{IsRefused}
use Rattle.wb_session_edits.specs.declared.edit.Edit.{Edit}
use Rattle.wb_program_files.specs.Checks.{Ends}
use Rattle.wb_program_texts.specs.Commands.Edit.{TextEditsReport, refused_line}
use Rattle.wb_program_texts.specs.Inner.EditFiles.{ShownList}
use Rattle.wb_program_files.specs.declared.status.Status.TheVariants.{EditRefused}
use Rattle.wb_program_files.proofs.StopLemmas.{on_ok}
use Rattle.wb_program_texts.proofs.edit.answer_list.Goals as goal

pub returns-in-Ok : goal.returns-in-Ok
returns-in-Ok c =
    let host = c.args.host.now in
    let file = c.args.file.now in
    let rest = TextEditsReport host.operations host.resolved (all_resolved c.args.extensions.now) file c.args.text.now in
    let edits = c.in-Ok.edits in
    on_ok c.edits_of_text-answer.result (λ answer. rest c.as_slice.result.now answer.status answer.report.items)
    (λ answer. ShownList file rest c.args.bytes.now answer.status answer.report.items)
    (λ answer report. inr (
      edits,
      c.in-Ok.ensures.ok,
      subst (λ (list : List Edit). rest list answer.status answer.report.items) c.as_slice.ensures report,
    )) c.edits_of_text-answer.ensures

pub returns-in-Err-Syntax : goal.returns-in-Err-Syntax
returns-in-Err-Syntax c =
    let host = c.args.host.now in
    let file = c.args.file.now in
    let rest = TextEditsReport host.operations host.resolved (all_resolved c.args.extensions.now) file c.args.text.now in
    let at = c.in-Err-Syntax.at in
    let fault = subst (IsRefused c.args.bytes.now) c.in-Err-Syntax.field-0-is c.in-Err-Syntax.ensures.refused in
    on_ok c.refused.result
    (λ answer. Ends EditRefused (λ bytes. bytes ≡ refused_line file (u.Syntax at)) answer.status answer.report.items)
    (λ answer. ShownList file rest c.args.bytes.now answer.status answer.report.items)
    (λ answer ends. inl (at, fault, ends)) c.refused.ensures
