use Rattle.std.proofs.Common.{◌≡◌, ◌<◌, ℕ, Some, slice_get}
use Rattle.wb_graph.specs.Graphs.{Edge}
use Rattle.wb_flow.specs.Inner.Sources.{LeavesComponent}
use Rattle.wb_flow.proofs.tested.leave_components.Given as goal

abbrev pub invariant-edges : goal.invariant-edges
invariant-edges l = (k : ℕ) (edge : Edge) → k < l.edge-index → slice_get l.edge-items k ≡ Some edge
    → LeavesComponent l.components.numbers edge
