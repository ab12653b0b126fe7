-- A step leaves the listing as it was.
use Rattle.std.proofs.Common.{◌≡◌, ◌∷◌, rules}
use Rattle.wb_values.specs.Tree.{empty}
use Rattle.wb_explain_drawing.specs.Inner.Remaining.{left_of}
use Rattle.wb_explain_drawing.proofs.ListingLemmas.{as_before, closes, ends_here, stops_here}
use Rattle.wb_explain_drawing.proofs.walk.step.Goals as goal

pub returns-then-leaf-eq18446744073709551615 : goal.returns-then-leaf-eq18446744073709551615
returns-then-leaf-eq18446744073709551615 c =
    stops_here c.args.levels c.args.store.now c.args.listing.now.items.items c.args.stack.now c.args.leaf

pub returns-in_default : goal.returns-in_default
returns-in_default c =
    ends_here c.args.levels c.args.store.now c.args.listing.now.items.items c.args.stack.now c.args.leaf c.in_default.ensures.0

pub returns-then-is_endless : goal.returns-then-is_endless
returns-then-is_endless c =
    stops_here c.args.levels c.args.store.now c.args.listing.now.items.items c.args.stack.now c.args.leaf

pub returns-then-not-has_next : goal.returns-then-not-has_next
returns-then-not-has_next c =
    let none : left_of c.args.store.now c.in-Some.top ≡ empty = search rules in
    closes c.args.levels c.args.store.now c.args.listing.now.items.items c.in-Some.top c.pop.new.self c.args.stack.now c.args.leaf
    c.in-Some.ensures none

pub returns : goal.returns
returns c =
    as_before c.args.levels c.args.store.now c.below.result c.args.listing.now.items.items c.args.stack.now (c.in-Some.top ∷ c.pop.new.self)
    c.args.leaf c.below.new.listing.items.items c.below.new.stack c.in-Some.ensures c.below.ensures
