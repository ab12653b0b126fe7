-- What was read is a text, and its answer is shown.
use Rattle.std.proofs.Common.{ℕ, List, IfOk, sym, subst}
use Rattle.wb_compose_texts.specs.Unions.{all_resolved}
use Rattle.wb_program_files.specs.Contents.{ReadText}
use Rattle.wb_program_files.specs.declared.files.Contents.{Contents}
use Rattle.wb_program_texts.specs.Inner.OfTexts.{OfTextReport}
use Rattle.wb_program_texts.proofs.texts.answer_contents.Goals as goal

pub returns-in-Whole : goal.returns-in-Whole
returns-in-Whole c =
    let host = c.args.host.now in
    let values = all_resolved c.args.extensions.now in
    subst (λ (contents : Contents). IfOk c.text_answer.result
    (λ answer. ReadText (OfTextReport c.args.asked host.operations host.resolved values) contents answer.status answer.report.items))
    (sym c.in-Whole.is)
    (subst (λ (text : List ℕ). IfOk c.text_answer.result
    (λ answer. OfTextReport c.args.asked host.operations host.resolved values text answer.status answer.report.items))
    c.deref.ensures.value c.text_answer.ensures)
