use Rattle.wb_flow.specs.Inner.Adding.{SomeBefore}
use Rattle.wb_flow.specs.Adding.{Adds}
use Rattle.wb_flow.specs.Inner.Arrows.{IsBelowArrow}
use Rattle.wb_flow.proofs.arrows.add_needs.Given as goal

abbrev pub invariant-trees : goal.invariant-trees
invariant-trees l = Adds l.fn.arrows.items l.arrows.items (SomeBefore l.trees l.tree-index (IsBelowArrow l.scope.attributes.now))
