-- What a production's flow graph is.
use Rattle.std.specs.Prelude.{◌≡◌, ◌↔◌, ℕ, Some, All, Contains, length, slice_get}
use Rattle.wb_base.specs.Different.{Differ}
use Rattle.wb_graph.specs.Graphs.{IsEdgeBelow}
use Rattle.wb_flow_theory.specs.Flow.{IsVertex, HasFlowEdge}
use Rattle.wb_syntax_resolved.specs.declared.attribution.AttributionParts.{AttributionParts}
use Rattle.wb_syntax_resolved.specs.declared.production.Production.{Production}
use Rattle.wb_flow.specs.declared.vertex.FlowGraph.{FlowGraph}
use Rattle.wb_flow.specs.declared.vertex.Vertex.{Vertex}
use Rattle.wb_flow.specs.Vertices.{vertex_of}

-- one vertex of the production's flow graph needs another
abbrev pub IsNeededBy : AttributionParts → Production → Vertex → Vertex → Type 0
IsNeededBy a production u v = HasFlowEdge a production (vertex_of a u) (vertex_of a v)

-- each vertex of the production's flow graph is listed once and nothing else is, and so it is with the edges, by the places of vertices
pub record IsFlowGraph (a : AttributionParts) (production : Production) (graph : FlowGraph) : Type 0 where
  pub once : Differ graph.vertices
  pub vertices : (v : Vertex) → Contains graph.vertices v ↔ IsVertex a production (vertex_of a v)
  pub within : All (IsEdgeBelow (length graph.vertices)) graph.edges
  pub edges : (i j : ℕ) (u v : Vertex) → slice_get graph.vertices i ≡ Some u → slice_get graph.vertices j ≡ Some v
      → Contains graph.edges (i, j) ↔ IsNeededBy a production u v
