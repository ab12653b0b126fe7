-- The strongly connected components of a directed graph.
use Rattle.std.specs.Prelude.{◌≡◌, ◌<◌, ◌≤◌, ◌↔◌, ℕ, List, Some, length, slice_get}
use Rattle.wb_graph.specs.Graphs.{Edge, IsEdge, Walk}

-- components: the number of each vertex, and a vertex of each number
pub record ComponentsView : Type 0 where
  pub numbers : List ℕ
  pub roots : List ℕ

-- walks lead both ways
abbrev pub AreStronglyConnected : List Edge → ℕ → ℕ → Type 0
AreStronglyConnected edges u v = Walk edges u v × Walk edges v u

-- each vertex has a number and each number a vertex; vertices with walks both ways have one number, and no others; and an edge leads
-- to the same number or a smaller one
pub record AreComponents (count : ℕ) (edges : List Edge) (components : ComponentsView) : Type 0 where
  pub len : length components.numbers ≡ count
  pub below : (v n : ℕ) → slice_get components.numbers v ≡ Some n → n < length components.roots
  pub every : (v n : ℕ) → slice_get components.roots n ≡ Some v → slice_get components.numbers v ≡ Some n
  pub exact : (u v m n : ℕ) → slice_get components.numbers u ≡ Some m → slice_get components.numbers v ≡ Some n
      → (m ≡ n) ↔ AreStronglyConnected edges u v
  pub falls : (u v m n : ℕ) → IsEdge edges u v → slice_get components.numbers u ≡ Some m → slice_get components.numbers v ≡ Some n → n ≤ m
