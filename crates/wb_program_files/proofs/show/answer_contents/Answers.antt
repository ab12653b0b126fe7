-- What was read is refused for the reason that the reader gives.
use Rattle.std.proofs.Common.{ℕ, List, inl, sym, subst}
use Rattle.wb_reader.specs.Refusals.{HasCause}
use Rattle.wb_program_files.specs.Checks.{Ends}
use Rattle.wb_program_files.specs.Contents.{ReadIs}
use Rattle.wb_program_files.specs.declared.files.Contents.{Contents}
use Rattle.wb_program_files.specs.declared.status.Status.TheVariants.{SpecRefused}
use Rattle.wb_program_files.proofs.StopLemmas.{on_ok}
use Rattle.wb_program_files.specs.Inner.Shown.{ContentsShow, ShowsRefusal}
use Rattle.wb_program_files.proofs.ShowLemmas.{refuses_read}
use Rattle.wb_program_files.proofs.show.answer_contents.Goals as goal

pub returns-in-Err : goal.returns-in-Err
returns-in-Err c =
    let contents = c.args.contents in
    let file = c.args.file.now in
    let refusal = c.in-Err.refusal in
    let cause : HasCause c.in-Whole.bytes.items refusal =
    subst (λ (text : List ℕ). HasCause text refusal) c.deref.ensures.value c.in-Err.ensures.refused in
    let read : ReadIs contents (λ text. HasCause text refusal) =
    subst (λ (x : Contents). ReadIs x (λ text. HasCause text refusal)) (sym c.in-Whole.is) cause in
    on_ok c.refused-answer.result (λ answer. Ends SpecRefused (ShowsRefusal refusal file) answer.status answer.report.items)
    (λ answer. ContentsShow contents answer.status answer.report.items file)
    (λ answer ends. inl (ends.0, refuses_read contents refusal file answer.report.items read ends.1)) c.refused-answer.ensures
