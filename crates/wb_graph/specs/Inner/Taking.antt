-- Edges in a chain for each vertex, from its last edge to its first, that are taken one after another.
use Rattle.std.specs.Prelude.{◌≡◌, ◌≢◌, ◌<◌, ◌≤◌, ◌+◌, ◌⊎◌, ℕ, List, Some, length, slice_get, slice_index, sum}
use Rattle.wb_graph.specs.Graphs.{Edge, IsEdge}

-- place is one more than the number of the last edge before the limit that leaves u, or 0 where none does
pub record IsLast (edges : List Edge) (u limit place : ℕ) : Type 0 where
  pub within : place ≤ limit
  pub leaves : (j : ℕ) → place ≡ j + 1 → (v : ℕ) × (slice_get edges j ≡ Some (u, v))
  pub others : (j v : ℕ) → place ≤ j → j < limit → ¬ (slice_get edges j ≡ Some (u, v))

-- each chain begins at an edge that leaves its vertex, and goes on from each edge to the last before it
pub record IsLinked (edges : List Edge) (firsts links : List ℕ) : Type 0 where
  pub len : length links ≡ length edges
  pub leaves : (u j : ℕ) → slice_index firsts u ≡ j + 1 → (v : ℕ) × (slice_get edges j ≡ Some (u, v))
  pub last : (u v j : ℕ) → slice_get edges j ≡ Some (u, v) → IsLast edges u j (slice_index links j)

-- an edge from u to v is taken
abbrev pub IsTaken : List Edge → List ℕ → ℕ → ℕ → Type 0
IsTaken edges firsts u v = (j : ℕ) × (slice_index firsts u ≤ j) × (slice_get edges j ≡ Some (u, v))

-- no edge is taken
abbrev pub NothingTaken : List Edge → List ℕ → Type 0
NothingTaken edges firsts = (u v : ℕ) → ¬ IsTaken edges firsts u v

-- one more edge is taken, which leads from u to v
pub record Takes (edges : List Edge) (old new : List ℕ) (u v : ℕ) : Type 0 where
  pub edge : IsEdge edges u v
  pub fewer : sum new < sum old
  pub here : (w : ℕ) → IsTaken edges new u w → IsTaken edges old u w ⊎ (w ≡ v)
  pub others : (t : ℕ) → t ≢ u → slice_index new t ≡ slice_index old t
