use Rattle.std.proofs.Common.{◌≤◌, length, arith}
use Rattle.std.proofs.lemmas.Option.{slice_get-get_or}
use Rattle.wb_flow.specs.Inner.Arrows.{IsBelowArrow}
use Rattle.wb_flow.proofs.AddingLemmas.{adds_start, adds_more, adds_all}
use Rattle.wb_flow.proofs.arrows.add_needs.Goals as goal

pub trees-init : goal.trees-init
trees-init c = adds_start c.args.arrows.now.items c.args.trees.now (IsBelowArrow c.args.scope.now.attributes.now)

pub trees-preserved : goal.trees-preserved
trees-preserved c =
    adds_more c.args.arrows.now.items c.trees.arrows.items c.add_needs_of.new.arrows.items c.args.trees.now
    (IsBelowArrow c.args.scope.now.attributes.now) c.trees.tree-index _ (slice_get-get_or c.args.trees.now c.trees.tree-index _
    c.trees-test.true) c.trees.invariant c.in_ok-add_needs_of.ensures

pub returns : goal.returns
returns c =
    let ended : length c.args.trees.now ≤ c.trees.tree-index = omega arith in
    adds_all c.args.arrows.now.items c.trees.arrows.items c.args.trees.now (IsBelowArrow c.args.scope.now.attributes.now) c.trees.tree-index
    ended c.trees.invariant
