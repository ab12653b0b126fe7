-- Paths between vertices, and a search that goes back from where a path ends.
use Rattle.std.specs.Prelude.{◌≡◌, ◌≢◌, ◌<◌, ◌+◌, ◌++◌, ◌∷◌, [], ℕ, List, Contains, Some, slice_get, slice_index}
use Rattle.wb_graph.specs.Graphs.{Edge, IsEdge}

-- the list is a path to the vertex, in which none is twice: it begins with `from`, and an edge leads from each to the next
pub data IsPathTo (edges : List Edge) (from : ℕ) : List ℕ → ℕ → Type 0 where
  alone : {list : List ℕ} {v : ℕ} → list ≡ from ∷ [] → v ≡ from → IsPathTo edges from list v
  longer : (shorter : List ℕ) (u : ℕ) {list : List ℕ} {v : ℕ} → IsPathTo edges from shorter u → IsEdge edges u v → ¬ Contains shorter v →
      list ≡ shorter ++ v ∷ [] → IsPathTo edges from list v

-- what a link of a trail says: it is the first, or an edge leads from its vertex to that of an earlier link
pub record LeadsBack (edges : List Edge) (trail : List (ℕ × ℕ)) (i : ℕ) (link : ℕ × ℕ) : Type 0 where
  pub lower : link.1 < i
  pub above : ℕ × ℕ
  pub there : slice_get trail link.1 ≡ Some above
  pub edge : IsEdge edges link.0 above.0

-- the trail goes back from a vertex, and each vertex that has been met has its one link
pub record IsTrail (edges : List Edge) (to : ℕ) (places : List ℕ) (trail : List (ℕ × ℕ)) : Type 0 where
  pub first : slice_get trail 0 ≡ Some (to, 0)
  pub each : (i : ℕ) (link : ℕ × ℕ) → slice_get trail i ≡ Some link → i ≢ 0 → LeadsBack edges trail i link
  pub met : (v i : ℕ) → slice_index places v ≡ i + 1 → (link : ℕ × ℕ) × (slice_get trail i ≡ Some link) × (link.0 ≡ v)
  pub placed : (i : ℕ) (link : ℕ × ℕ) → slice_get trail i ≡ Some link → slice_index places link.0 ≡ i + 1
  pub start : 0 < slice_index places to

-- edges whose ends have been met leave vertices that have been met
abbrev pub IsBackClosed : List Edge → List ℕ → Type 0
IsBackClosed edges places = (u v : ℕ) → IsEdge edges u v → 0 < slice_index places v → 0 < slice_index places u
