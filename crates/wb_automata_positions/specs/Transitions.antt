-- Lists of leaves and starts, and to which leaves and ends one comes from them.
use Rattle.std.specs.Prelude.{◌≡◌, ◌+◌, ◌^◌, ℕ, ◌<◌, ◌++◌, All, List, Some, length, Contains, slice_get, slice_index}
use Rattle.wb_regex.specs.declared.node.RegexNode.{RegexNode}
use Rattle.wb_regex.specs.declared.node.RegexNode.TheVariants as n
use Rattle.wb_automata_positions.specs.Rows.{row}
use Rattle.wb_automata_positions.specs.declared.tables.Tables.{Tables}
use Rattle.wb_automata_positions.specs.NodePlaces.{Reaches}
use Rattle.wb_automata_positions.specs.Rising.{AreRising}

-- places below a number, in order
pub record IsPlaceList (m : ℕ) (places : List ℕ) : Type 0 where
  pub below : All (λ p. p < m) places
  pub rising : AreRising places

-- how many nodes and starts there are
abbrev pub count_of : Tables → ℕ
count_of t = length t.nodes.items + length t.roots.items

-- where one goes on after a leaf, and where an expression begins
abbrev pub entry_of : Tables → ℕ → ℕ
entry_of t p = slice_index (t.next.items ++ t.roots.items) p

-- each node goes on somewhere, and each list of starts has numbers of nodes and starts
pub record IsTable (t : Tables) : Type 0 where
  pub len : length t.next.items ≡ length t.nodes.items
  pub fits : length t.nodes.items + length t.nodes.items < 2 ^ 64
  pub starts : (s : ℕ) → IsPlaceList (count_of t) (row t.starts s)

-- the node is a set of bytes
pub record IsLeaf (nodes : List RegexNode) (q : ℕ) : Type 0 where
  pub words : List ℕ
  pub at : slice_get nodes q ≡ Some (n.Set words)

-- from some number of the set one comes to the place without reading
pub record IsReached (t : Tables) (set : List ℕ) (q : ℕ) : Type 0 where
  pub from : ℕ
  pub has : Contains set from
  pub reaches : Reaches t.nodes.items t.next.items (entry_of t from) q

-- the leaf may be read next after some number of the set
pub record Ahead (t : Tables) (set : List ℕ) (q : ℕ) : Type 0 where
  pub leaf : IsLeaf t.nodes.items q
  pub reached : IsReached t set q

-- the expression may end after some number of the set
abbrev pub EndsAfter : Tables → List ℕ → ℕ → Type 0
EndsAfter t set k = IsReached t set (length t.nodes.items + length t.nodes.items + k)
