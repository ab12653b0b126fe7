-- Sets of the vertices to which walks lead, one for each component of a graph.
use Rattle.std.specs.Prelude.{◌≡◌, ◌<◌, ◌↔◌, ℕ, Bool, List, [], Some, length, slice_get, slice_index_or}
use Rattle.wb_graph.specs.Components.{ComponentsView}
use Rattle.wb_graph.specs.Graphs.{Edge, Walk}
use Rattle.wb_termset.specs.Sets.{IsMember}
use Rattle.wb_flow.specs.declared.vertex.Vertex.{Vertex}

-- the set at a place, and that of nothing beyond
abbrev pub set_at : List (List Bool) → ℕ → List Bool
set_at sets place = slice_index_or sets place []

-- so many sets, of numbers below this count
pub record AreSets (number count : ℕ) (sets : List (List Bool)) : Type 0 where
  pub len : length sets ≡ number
  pub each : (c : ℕ) → c < number → length (set_at sets c) ≡ count

-- the set of each component has the numbers of those vertices to which walks lead from its own
pub record AreReachSets (vertices tops : List Vertex) (edges : List Edge) (components : ComponentsView) (sets : List (List Bool)) : Type 0
  where
    pub sizes : AreSets (length components.roots) (length tops) sets
    pub each : (u c r : ℕ) (v : Vertex) → slice_get components.numbers u ≡ Some c → slice_get tops r ≡ Some v
        → IsMember (set_at sets c) r ↔ ((place : ℕ) × (slice_get vertices place ≡ Some v) × Walk edges u place)
