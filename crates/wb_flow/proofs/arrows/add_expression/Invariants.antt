use Rattle.wb_flow.specs.Inner.Adding.{SomeBefore}
use Rattle.wb_flow.specs.Adding.{Adds}
use Rattle.wb_flow.specs.Inner.Arrows.{IsReadArrow}
use Rattle.wb_flow.proofs.arrows.add_expression.Given as goal

abbrev pub invariant-nodes : goal.invariant-nodes
invariant-nodes l = Adds l.fn.arrows.items l.arrows.items (SomeBefore l.nodes l.node-index (IsReadArrow l.from))
