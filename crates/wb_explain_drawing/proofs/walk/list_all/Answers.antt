-- Each step leaves the listing as it was, and the last ends it.
use Rattle.wb_values.specs.ValuesIn.{tree_in}
use Rattle.wb_explain_drawing.proofs.ListingLemmas.{is_part, is_stopped, is_whole, leads_on}
use Rattle.wb_explain_drawing.proofs.walk.list_all.Goals as goal

pub steps-init : goal.steps-init
steps-init c = c.in_ok-begin.ensures

pub steps-preserved : goal.steps-preserved
steps-preserved c =
    leads_on c.args.levels c.args.store.now (tree_in c.args.store.now c.args.root.0) c.steps.listing.items.items
    c.step.new.listing.items.items c.steps.stack c.step.new.stack c.steps.leaf c.in-At.next _ c.steps.invariant c.in-At.is c.in_ok-next.ensures

pub returns-then-len-most : goal.returns-then-len-most
returns-then-len-most c =
    is_part c.args.levels c.args.store.now (tree_in c.args.store.now c.args.root.0) c.steps.listing.items.items c.steps.stack c.steps.leaf
    c.steps.invariant

pub returns-in-End : goal.returns-in-End
returns-in-End c =
    is_whole c.args.levels c.args.store.now (tree_in c.args.store.now c.args.root.0) c.steps.listing.items.items
    c.step.new.listing.items.items c.steps.stack c.step.new.stack c.steps.leaf _ c.steps.invariant c.in-End.is c.in_ok-next.ensures

pub returns-in-Stop : goal.returns-in-Stop
returns-in-Stop c =
    is_stopped c.args.levels c.args.store.now (tree_in c.args.store.now c.args.root.0) c.steps.listing.items.items
    c.step.new.listing.items.items c.steps.stack c.step.new.stack c.steps.leaf _ c.steps.invariant c.in-Stop.is c.in_ok-next.ensures

pub returns : goal.returns
returns c =
    is_part c.args.levels c.args.store.now (tree_in c.args.store.now c.args.root.0) c.steps.listing.items.items c.steps.stack c.steps.leaf
    c.steps.invariant
