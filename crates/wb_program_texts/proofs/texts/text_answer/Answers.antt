-- What is asked of a text is answered.
use Rattle.std.proofs.Common.{IfOk, sym, subst}
use Rattle.wb_compose_texts.specs.Unions.{all_resolved}
use Rattle.wb_program_texts.specs.declared.texts.OfText.{OfText}
use Rattle.wb_program_texts.specs.Inner.OfTexts.{OfTextReport}
use Rattle.wb_program_texts.proofs.texts.text_answer.Goals as goal

pub returns-in-Tree : goal.returns-in-Tree
returns-in-Tree c =
    let host = c.args.host.now in
    let values = all_resolved c.args.extensions.now in
    subst (λ (asked : OfText). IfOk c.tree_of_text.result
    (λ answer. OfTextReport asked host.operations host.resolved values c.args.text.now answer.status answer.report.items))
    (sym c.in-Tree.is) c.tree_of_text.ensures

pub returns-in-Reading : goal.returns-in-Reading
returns-in-Reading c =
    let host = c.args.host.now in
    let values = all_resolved c.args.extensions.now in
    subst (λ (asked : OfText). IfOk c.reading_of_text.result
    (λ answer. OfTextReport asked host.operations host.resolved values c.args.text.now answer.status answer.report.items))
    (sym c.in-Reading.is) c.reading_of_text.ensures
