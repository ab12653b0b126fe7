use Rattle.std.proofs.Common.{◌≡◌, ◌<◌, ℕ, Some, slice_get}
use Rattle.wb_flow.specs.declared.vertex.Vertex.{Vertex}
use Rattle.wb_flow.specs.Inner.Sources.{KeepsFrom}
use Rattle.wb_flow.proofs.reads.check_reads.Given as goal

abbrev pub invariant-vertices : goal.invariant-vertices
invariant-vertices l = (k : ℕ) (vertex : Vertex) → k < l.start → slice_get l.tested.graph.now.vertices k ≡ Some vertex
    → KeepsFrom l.tested.scope.now.attributes.now l.tested.production.now vertex
