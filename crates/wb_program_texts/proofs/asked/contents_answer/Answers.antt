-- What was read is a text, and what comes of it is shown.
use Rattle.std.proofs.Common.{ℕ, List, None, IfOk, sym, subst}
use Rattle.wb_operations.specs.Operations.{Operations}
use Rattle.wb_compose_texts.specs.Unions.{all_resolved}
use Rattle.wb_program_files.specs.Checks.{Report}
use Rattle.wb_program_files.specs.Contents.{ReadText}
use Rattle.wb_program_files.specs.declared.files.Contents.{Contents}
use Rattle.wb_program_texts.specs.Inner.Sources.{shown_with}
use Rattle.wb_program_texts.specs.Values.{TextValueReport}
use Rattle.wb_program_texts.proofs.asked.contents_answer.Goals as goal

pub returns-in-Whole : goal.returns-in-Whole
returns-in-Whole g c =
    let operations : Operations = record { signatures = c.args.operations.now.signatures; meaning = g.M.Meaning.meaning } in
    let asked = c.args.asked.now in
    let name = asked.name.now in
    let Shown : List ℕ → Report = λ text.
    TextValueReport operations asked.host.now.resolved (all_resolved asked.extensions.now) name c.args.steps (shown_with name 0 None) text in
    subst (λ (contents : Contents). IfOk c.text_answer-answer.result (λ answer. ReadText Shown contents answer.status answer.report.items))
    (sym c.in-Whole.is)
    (subst (λ (text : List ℕ). IfOk c.text_answer-answer.result (λ answer. Shown text answer.status answer.report.items)) c.deref.ensures.value
    c.text_answer-answer.ensures)
