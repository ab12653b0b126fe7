use Rattle.std.proofs.Common.{◌<◌, ℕ}
use Rattle.std.specs.Prelude.{◌↔◌}
use Rattle.wb_graph.specs.Graphs.{IsEdge}
use Rattle.wb_digraph.specs.Inner.Links.{ReadsOn}
use Rattle.wb_digraph.proofs.reads.read_edges.Given as goal

abbrev pub invariant-states : goal.invariant-states
invariant-states l = (u v : ℕ) → IsEdge l.edges.items u v ↔ ((u < l.state) × ReadsOn l.context.kernels.now u v)
