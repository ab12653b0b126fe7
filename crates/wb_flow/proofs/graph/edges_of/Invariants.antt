use Rattle.std.proofs.Common.{[]}
use Rattle.wb_flow.specs.Inner.Adding.{SomeBefore}
use Rattle.wb_flow.specs.Adding.{Adds}
use Rattle.wb_flow.specs.Inner.Arrows.{IsNumbered}
use Rattle.wb_flow.proofs.graph.edges_of.Given as goal

abbrev pub invariant-arrows : goal.invariant-arrows
invariant-arrows l = Adds [] l.edges.items (SomeBefore l.arrows l.arrow-index (IsNumbered l.vertices))
