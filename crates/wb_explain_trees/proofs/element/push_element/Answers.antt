-- The element of a label.
use Rattle.wb_explain_trees.specs.Inner.Sessions.{view_of}
use Rattle.wb_explain_trees.proofs.PictureLemmas.{has_element}
use Rattle.wb_explain_trees.proofs.element.push_element.Goals as goal

pub returns-in-Ok-clause-element : goal.returns-in-Ok-clause-element
returns-in-Ok-clause-element c =
    has_element (view_of c.args.shown.now.session.now c.args.shown.now.signatures.now c.args.shown.now.names.now) c.args.item c.args.out.now.items c.push_parts-answer.new.out.items
    c.in-Some.label.name.now c.deref.result.now c.in-Some.label.begin c.in-Some.ensures c.in-Ok.ensures

pub returns-in-Ok-clause-reached : goal.returns-in-Ok-clause-reached
returns-in-Ok-clause-reached c = c.in-Some.ensures.reached
