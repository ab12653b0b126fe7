-- What becomes of the text is shown.
use Rattle.wb_compose_texts.specs.Unions.{all_resolved}
use Rattle.wb_program_files.proofs.StopLemmas.{on_ok}
use Rattle.wb_program_texts.specs.Commands.Edit.{ShownEdits, TextEditsReport}
use Rattle.wb_program_texts.proofs.edit.edits_of_text.Goals as goal

pub returns : goal.returns
returns c =
    let host = c.args.host.now in
    let file = c.args.file.now in
    let made = c.in_ok-answer.answer in
    on_ok c.shown_edits.result (λ answer. ShownEdits file made answer.status answer.report.items)
    (λ answer. TextEditsReport host.operations host.resolved (all_resolved c.args.extensions.now) file c.args.text.now c.args.edits.now
    answer.status answer.report.items)
    (λ answer shown. record { answer = made; is = c.in_ok-answer.ensures; shown = shown }) c.shown_edits.ensures
