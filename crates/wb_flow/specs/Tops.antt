-- Which inherited attributes of the top the vertices of a flow graph reach.
use Rattle.std.specs.Prelude.{◌≡◌, ◌<◌, ◌↔◌, ◌⊎◌, ℕ, Bool, List, Some, Contains, length, slice_get}
use Rattle.wb_flow_theory.specs.Occurrences.{Goes}
use Rattle.wb_graph.specs.Components.{AreComponents}
use Rattle.wb_termset.specs.Sets.{IsMember}
use Rattle.wb_flow.specs.declared.reach.TopReach.{TopReach}
use Rattle.wb_flow.specs.declared.vertex.FlowGraph.{FlowGraph}
use Rattle.wb_flow.specs.declared.vertex.Vertex.{Vertex}
use Rattle.wb_flow.specs.declared.vertex.Vertex.TheVariants as v
use Rattle.wb_flow.specs.ReachSets.{set_at, AreReachSets}
use Rattle.wb_syntax_resolved.specs.declared.attributes.Direction.TheVariants.{Inherited}
use Rattle.wb_syntax_resolved.specs.declared.attribution.AttributionParts.{AttributionParts}

-- the vertex is an inherited attribute of the top
abbrev pub IsTop : AttributionParts → Vertex → Type 0
IsTop a vertex = (i : ℕ) × (vertex ≡ v.Top i) × Goes a Inherited i

-- the inherited attributes of the top are those of the graph, and each set has those to which walks lead
pub record KnowsTops (a : AttributionParts) (graph : FlowGraph) (reach : TopReach) : Type 0 where
  pub tops : (vertex : Vertex) → Contains reach.tops vertex ↔ (Contains graph.vertices vertex × IsTop a vertex)
  pub components : AreComponents (length graph.vertices) graph.edges reach.components
  pub sets : AreReachSets graph.vertices reach.tops graph.edges reach.components reach.sets.items

-- of the attributes of the top the set has those for which it holds, and no others
pub record IsSelection (reach : TopReach) (P : ℕ → Type 0) (set : List Bool) : Type 0 where
  pub len : length set ≡ length reach.tops
  pub each : (r i : ℕ) → slice_get reach.tops r ≡ Some (v.Top i) → IsMember set r ↔ P i

-- the set has this attribute of the top too
pub record AddsSelected (reach : TopReach) (attribute : ℕ) (old new : List Bool) : Type 0 where
  pub len : length new ≡ length old
  pub each : (r : ℕ) → IsMember new r ↔ (IsMember old r ⊎ (slice_get reach.tops r ≡ Some (v.Top attribute)))

-- the vertex at this place has a set
pub record HasSet (reach : TopReach) (place : ℕ) : Type 0 where
  pub component : ℕ
  pub at : slice_get reach.components.numbers place ≡ Some component
  pub within : component < length reach.sets.items
  pub len : length (set_at reach.sets.items component) ≡ length reach.tops

-- the set of the vertex at this place has the attribute of the top, and the other set hasn't
pub record IsBeyond (reach : TopReach) (place : ℕ) (allowed : List Bool) (i : ℕ) : Type 0 where
  pub component : ℕ
  pub number : ℕ
  pub at : slice_get reach.components.numbers place ≡ Some component
  pub top : slice_get reach.tops number ≡ Some (v.Top i)
  pub has : IsMember (set_at reach.sets.items component) number
  pub lacks : ¬ IsMember allowed number
