use Rattle.std.proofs.Common.{[]}
use Rattle.wb_flow.specs.Inner.Adding.{SomeBefore}
use Rattle.wb_flow.specs.Adding.{Adds}
use Rattle.wb_flow.specs.Inner.Positions.{IsVertexOf}
use Rattle.wb_flow.proofs.vertices.vertices_of.Given as goal

abbrev pub invariant-trees : goal.invariant-trees
invariant-trees l = Adds [] l.vertices (SomeBefore l.trees l.tree-index (IsVertexOf l.scope.attributes.now))
