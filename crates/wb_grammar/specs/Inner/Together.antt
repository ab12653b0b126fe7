-- Edges by their places, and those whose ends are in one strongly connected component.
use Rattle.std.specs.Prelude.{◌≡◌, ℕ, List, Some, slice_get, slice_index_or}
use Rattle.wb_graph.specs.Components.{ComponentsView}
use Rattle.wb_graph.specs.Graphs.{Edge}

-- the edge at a place
abbrev pub edge_at : List Edge → ℕ → Edge
edge_at edges i = slice_index_or edges i (0, 0)

-- both ends of the edge have the same number
abbrev pub IsTogether : ComponentsView → Edge → Type 0
IsTogether components e = (n : ℕ) × (slice_get components.numbers e.0 ≡ Some n) × (slice_get components.numbers e.1 ≡ Some n)
