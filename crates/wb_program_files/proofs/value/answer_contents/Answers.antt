-- What was read is a term, and its answer is shown.
use Rattle.std.proofs.Common.{ℕ, List, IfOk, sym, subst}
use Rattle.wb_operations.specs.Operations.{Operations}
use Rattle.wb_eval_root.specs.Answers.{IsRootAnswer}
use Rattle.wb_program_files.specs.Contents.{ReadText}
use Rattle.wb_program_files.specs.declared.files.Contents.{Contents}
use Rattle.wb_program_files.proofs.StopLemmas.{on_ok}
use Rattle.wb_program_files.specs.Commands.Value.{RootReport, TermReport}
use Rattle.wb_program_files.proofs.value.answer_contents.Goals as goal

pub returns-in_ok-answer-in-Whole : goal.returns-in_ok-answer-in-Whole
returns-in_ok-answer-in-Whole g c =
    let a = c.args.attributes.now in
    let file = c.args.file.now in
    let attribute = c.args.attribute.now in
    let text = c.in-Whole.bytes.items in
    let root = c.in_ok-answer-in-Whole.answer in
    let operations : Operations = record { signatures = c.args.operations.now.signatures; meaning = g.M.Meaning.meaning } in
    let named : IsRootAnswer a operations c.deref.result.now attribute 1000000 root =
    subst (λ (name : List ℕ). IsRootAnswer a operations c.deref.result.now name 1000000 root) c.as_bytes.ensures.value
    c.in_ok-answer-in-Whole.ensures in
    let is : IsRootAnswer a operations text attribute 1000000 root =
    subst (λ (term : List ℕ). IsRootAnswer a operations term attribute 1000000 root) c.deref.ensures.value named in
    subst (λ (contents : Contents). IfOk c.shown.result (λ answer. ReadText (TermReport operations a file attribute) contents answer.status
    answer.report.items)) (sym c.in-Whole.is)
    (on_ok c.shown.result (λ answer. RootReport file attribute root answer.status answer.report.items)
    (λ answer. TermReport operations a file attribute text answer.status answer.report.items)
    (λ answer shown. record { answer = root; is = is; shown = shown }) c.shown.ensures)
