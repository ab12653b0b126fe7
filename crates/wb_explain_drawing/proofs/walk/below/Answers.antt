-- The next child is listed, and opened where it is a node.
use Rattle.std.proofs.Common.{◌∷◌, ◌∙◌, ap}
use Rattle.wb_explain_drawing.proofs.ListingLemmas.{child_of, leaf_leads, node_leads}
use Rattle.wb_explain_drawing.proofs.walk.below.Goals as goal

pub returns-in_ok-push-in-Some : goal.returns-in_ok-push-in-Some
returns-in_ok-push-in-Some c =
    node_leads c.args.levels c.args.store.now c.args.listing.now.items.items c.add.new.listing.items.items c.args.top c.in-Some.tree
    c.production.result c.args.stack.now c.push-in-Some.new.self c.args.leaf c.production.ensures c.in-Some.ensures.some c.in_ok-add-in-Some.ensures
    (c.in_ok-push-in-Some.ensures.ok ∙ ap (λ os. child_of c.args.top c.in-Some.tree ∷ os) c.in_ok-push.ensures.ok)

pub returns-in_ok-add-in-None : goal.returns-in_ok-add-in-None
returns-in_ok-add-in-None c =
    leaf_leads c.args.levels c.args.store.now c.args.listing.now.items.items c.add-in-None.new.listing.items.items c.args.top
    c.args.stack.now c.push.new.self c.args.leaf c.requires.next c.in-None.ensures.none c.in_ok-add-in-None.ensures c.in_ok-push.ensures.ok
