-- What spreads along the edges of a graph, and the groups of its vertices.
use Rattle.std.specs.Prelude.{◌≡◌, ◌↔◌, ◌⊎◌, ◌<◌, ◌≤◌, ℕ, Bool, List, Some, All, Contains, length, slice_get}
use Rattle.wb_termset.specs.Sets.{IsMember}
use Rattle.wb_graph.specs.Graphs.{Edge, IsEdge, IsEdgeBelow}
use Rattle.wb_graph.specs.Components.{AreComponents, ComponentsView}
use Rattle.wb_digraph.specs.Inner.Chains.{AreChained}
use Rattle.wb_digraph.specs.Inner.Pools.{AreNumbers, set_at}

-- t comes to u: it stands at u directly, or comes to some v to which an edge leads from u
pub data Spreads (Direct : ℕ → ℕ → Type 0) (Leads : ℕ → ℕ → Type 0) : ℕ → ℕ → Type 0 where
  here : {u t : ℕ} → Direct u t → Spreads Direct Leads u t
  there : (v : ℕ) {u t : ℕ} → Leads u v → Spreads Direct Leads v t → Spreads Direct Leads u t

-- t is in the set with the number that the vertex has
abbrev pub HasAt : List (List Bool) → List ℕ → ℕ → ℕ → Type 0
HasAt sets numbers u t = (n : ℕ) × (slice_get numbers u ≡ Some n) × IsMember (set_at sets n) t

-- each vertex has the number of a set, which has exactly what spreads to it from the sets that vertices had
pub record AreSpread (edges : List Edge) (firsts : List ℕ) (old new : List (List Bool)) (numbers : List ℕ) : Type 0 where
  pub len : length numbers ≡ length firsts
  pub below : AreNumbers new numbers
  pub exact : (u n t : ℕ) → slice_get numbers u ≡ Some n → IsMember (set_at new n) t ↔ Spreads (HasAt old firsts) (IsEdge edges) u t

-- the edge leaves a vertex of the group
abbrev pub LeavesGroup : List Edge → List ℕ → ℕ → ℕ → Type 0
LeavesGroup edges groups j k = (e : Edge) × (slice_get edges j ≡ Some e) × (slice_get groups e.0 ≡ Some k)

-- the vertex is in the group
abbrev pub IsInGroup : List ℕ → ℕ → ℕ → Type 0
IsInGroup groups v k = slice_get groups v ≡ Some k

-- the graph in parts: its groups of vertices, the number that each vertex has, and chains of the vertices and edges of each group
pub record IsGraph (edges : List Edge) (firsts : List ℕ) (components : ComponentsView) (vertices vertices' leaving leaving' : List ℕ) :
    Type 0 where
  pub below : All (IsEdgeBelow (length firsts)) edges
  pub groups : AreComponents (length firsts) edges components
  pub in_group : AreChained (IsInGroup components.numbers) vertices vertices'
  pub leaves : AreChained (LeavesGroup edges components.numbers) leaving leaving'
  pub in_group_len : length vertices' ≡ length firsts
  pub leaves_len : length leaving' ≡ length edges
  pub in_group_keys : length vertices ≡ length components.roots
  pub leaves_keys : length leaving ≡ length components.roots

-- the number is that of the vertex, which is in the group
abbrev pub IsFirstAt : List ℕ → List ℕ → ℕ → ℕ → ℕ → Type 0
IsFirstAt firsts groups k v n = IsInGroup groups v k × (slice_get firsts v ≡ Some n)

-- the number is that of a smaller group, to which the edge leads from this one
abbrev pub IsFoundAt : List Edge → List ℕ → List ℕ → ℕ → ℕ → ℕ → Type 0
IsFoundAt edges groups found k j n =
    (e : Edge) × (i : ℕ) × (slice_get edges j ≡ Some e) × (slice_get groups e.0 ≡ Some k) × (slice_get groups e.1 ≡ Some i) × (i < k) ×
    (slice_get found i ≡ Some n)

-- the number comes from a place at or after this one
abbrev pub ComesFrom : (ℕ → ℕ → Type 0) → ℕ → ℕ → Type 0
ComesFrom At from n = (j : ℕ) × (from ≤ j) × At j n

-- the numbers are those of the group's vertices and of the groups to which edges lead from it
abbrev pub AreParts : List Edge → List ℕ → List ℕ → List ℕ → ℕ → List ℕ → Type 0
AreParts edges groups firsts found k parts =
    (n : ℕ) → Contains parts n ↔ (ComesFrom (IsFirstAt firsts groups k) 0 n ⊎ ComesFrom (IsFoundAt edges groups found k) 0 n)

-- the groups of the first numbers have sets, with exactly what spreads to their vertices
pub record AreFound (edges : List Edge) (firsts groups : List ℕ) (old new : List (List Bool)) (found : List ℕ) : Type 0 where
  pub below : AreNumbers new found
  pub exact : (u k n t : ℕ) → slice_get groups u ≡ Some k → slice_get found k ≡ Some n →
      IsMember (set_at new n) t ↔ Spreads (HasAt old firsts) (IsEdge edges) u t
