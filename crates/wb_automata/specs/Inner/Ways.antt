-- Which of some leaves hold each of some bytes, in lists that share their beginnings.
use Rattle.std.specs.Prelude.{◌≡◌, ◌<◌, ◌≤◌, ◌↔◌, ◌+◌, ◌-◌, ◌⊎◌, ℕ, true, false, Option, Some, None, List, [], ◌∷◌, ◌++◌, Contains, length, take, slice_get, slice_index, slice_index_or}
use Rattle.wb_regex.specs.declared.node.RegexNode.{RegexNode}
use Rattle.wb_automata_positions.specs.Leaves.{holds_of, node_holds}
use Rattle.wb_automata_positions.specs.Rising.{AreRising}
use Rattle.wb_automata_positions.specs.Transitions.{Ahead, IsPlaceList}
use Rattle.wb_automata.specs.Automata.{Path}
use Rattle.wb_automata_positions.specs.declared.tables.Tables.{Tables}
use Rattle.wb_automata.specs.Inner.Found.{Found, IsTo}
use Rattle.wb_automata.specs.Inner.Exploring.{RowPass}

-- each byte has a list
pub record AreListed (chains : List (List ℕ)) (ends : List ℕ) (count : ℕ) : Type 0 where
  pub len : length ends ≡ count
  pub below : (c : ℕ) → c < count → slice_index ends c < length chains

-- the list has those of the leaves that hold the byte, in order
pub record IsWay (nodes : List RegexNode) (b : ℕ) (leaves list : List ℕ) : Type 0 where
  pub exact : (q : ℕ) → Contains list q ↔ ((holds_of nodes q b ≡ true) × Contains leaves q)
  pub rising : AreRising list

-- each byte has a list of those of the first k leaves that hold it
pub record AreWays (nodes : List RegexNode) (bytes leaves : List ℕ) (chains : List (List ℕ)) (ends : List ℕ) (k : ℕ) : Type 0 where
  pub listed : AreListed chains ends (length bytes)
  pub each : (c : ℕ) (list : List ℕ) → c < length bytes → slice_get chains (slice_index ends c) ≡ Some list
      → IsWay nodes (slice_index bytes c) (take k leaves) list

-- the leaves of a list may come next after the set, and each byte has a list of those of them that hold it
pub record AreReady (t : Tables) (bytes set : List ℕ) (chains : List (List ℕ)) (ends : List ℕ) : Type 0 where
  pub ahead : List ℕ
  pub is : (q : ℕ) → Contains ahead q ↔ Ahead t set q
  pub places : IsPlaceList (length t.nodes.items) ahead
  pub ways : AreWays t.nodes.items bytes ahead chains ends (length ahead)

-- the list of one byte has a leaf more, and those of others are as they were
pub record IsPut (c q : ℕ) (old : List (List ℕ)) (olds : List ℕ) (new : List (List ℕ)) (news : List ℕ) : Type 0 where
  pub len : length news ≡ length olds
  pub here : (list : List ℕ) → slice_get old (slice_index olds c) ≡ Some list → slice_get new (slice_index news c) ≡ Some (list ++ q ∷ [])
  pub others : (d : ℕ) (list : List ℕ) → ¬ (d ≡ c) → slice_get old (slice_index olds d) ≡ Some list → slice_get new (slice_index news d) ≡ Some list

-- the lists of those of the first k bytes that the node holds have a leaf more, and the others are as they were
pub record HasPassed (node : RegexNode) (bytes : List ℕ) (q k : ℕ) (old : List (List ℕ)) (olds : List ℕ) (new : List (List ℕ))
    (news : List ℕ) : Type 0 where
  pub len : length news ≡ length olds
  pub put : (c : ℕ) (list : List ℕ) → c < k → node_holds node (slice_index bytes c) ≡ true → slice_get old (slice_index olds c) ≡ Some list
      → slice_get new (slice_index news c) ≡ Some (list ++ q ∷ [])
  pub left : (c : ℕ) (list : List ℕ) → (c < k → node_holds node (slice_index bytes c) ≡ false) → slice_get old (slice_index olds c) ≡ Some list
      → slice_get new (slice_index news c) ≡ Some list

-- one byte has the leaf after the others, or none from it up to the next one gets it, since the node holds none of them
pub record HasStepped (node : RegexNode) (bytes : List ℕ) (q c d : ℕ) (old : List (List ℕ)) (olds : List ℕ) (new : List (List ℕ))
    (news : List ℕ) : Type 0 where
  pub further : c < d
  pub within : d ≤ length bytes
  pub change : ((d ≡ c + 1) × (node_holds node (slice_index bytes c) ≡ true) × IsPut c q old olds new news)
      ⊎ ((new ≡ old) × (news ≡ olds) × ((k : ℕ) → c ≤ k → k < d → node_holds node (slice_index bytes k) ≡ false))

-- one move more: that of an earlier byte with the same list once again
pub record IsAgain (c : ℕ) (ends : List ℕ) (old : Found) (olds : List (Option ℕ)) (new : Found) (news : List (Option ℕ)) : Type 0 where
  pub first : ℕ
  pub earlier : first < c
  pub alike : slice_index ends first ≡ slice_index ends c
  pub same : new ≡ old
  pub moves : news ≡ olds ++ slice_index_or olds (length olds - (c - first)) None ∷ []

-- one move more: to the state with the leaves of the list
pub record IsListMoved (list : List ℕ) (path : Path) (old : Found) (olds : List (Option ℕ)) (new : Found)
    (news : List (Option ℕ)) : Type 0 where
  pub to : Option ℕ
  pub is : IsTo old list path new to
  pub moves : news ≡ olds ++ to ∷ []

-- one move more: that of an earlier byte with the same list, or to the state with the leaves of the byte's list
abbrev pub HasMoved : ℕ → List (List ℕ) → List ℕ → Path → Found → List (Option ℕ) → Found → List (Option ℕ) → Type 0
HasMoved c chains ends path old olds new news = IsAgain c ends old olds new news ⊎ ((list : List ℕ) → slice_get chains
    (slice_index ends c) ≡ Some list → IsListMoved list path old olds new news)

-- within the state i: its moves by the first c of the bytes, and the lists of the leaves that may come next
pub record IsOnWay (t : Tables) (bytes : List ℕ) (old found : Found) (i : ℕ) (moves : List (Option ℕ)) (chains : List (List ℕ)) (ends : List ℕ)
    (c : ℕ) : Type 0 where
  pub ahead : List ℕ
  pub row : RowPass t bytes old found i ahead moves c
  pub ways : AreWays t.nodes.items bytes ahead chains ends (length ahead)
