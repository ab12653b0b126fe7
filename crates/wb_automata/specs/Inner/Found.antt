-- States that are found one after another, each with its places and with the path by which it was found.
use Rattle.std.specs.Prelude.{◌≡◌, ℕ, ◌<◌, ◌≤◌, List, [], true, length, Contains, ◌↔◌, ◌⊎◌, Option, Some, None, ◌∷◌, ◌++◌, slice_get}
use Rattle.wb_regex.specs.declared.node.RegexNode.{RegexNode}
use Rattle.wb_automata_positions.specs.Rows.{row}
use Rattle.wb_automata_positions.specs.declared.tables.Tables.{Tables}
use Rattle.wb_automata_positions.specs.Leaves.{holds_of}
use Rattle.wb_automata_positions.specs.Transitions.{Ahead, IsPlaceList, count_of}
use Rattle.wb_automata.specs.Automata.{Path, IsEarlier}

-- the leaf is where the byte leads from the set
abbrev pub Reads : Tables → List ℕ → ℕ → ℕ → Type 0
Reads t set b q = (holds_of t.nodes.items q b ≡ true) × Ahead t set q

-- the places of each state, and its path
pub record Found : Type 0 where
  pub sets : List (List ℕ)
  pub paths : List Path

-- the path with one byte more
abbrev pub on : Path → ℕ → Path
on path b = record { set = path.set; text = path.text ++ b ∷ [] }

-- one more state
abbrev pub pushed : Found → List ℕ → Path → Found
pushed found set path = record { sets = found.sets ++ set ∷ []; paths = found.paths ++ path ∷ [] }

-- the state is listed, as one of the old ones or as a new one with this path
pub record IsPlaced (old : Found) (set : List ℕ) (path : Path) (new : Found) (i : ℕ) : Type 0 where
  pub here : slice_get new.sets i ≡ Some set
  pub change : (new ≡ old) ⊎ ((i ≡ length old.sets) × (new ≡ pushed old set path))

-- the byte leads to some of the leaves ahead, and they are a listed state
pub record IsMovedTo (nodes : List RegexNode) (ahead : List ℕ) (path : Path) (b : ℕ) (old new : Found) (j : ℕ) : Type 0 where
  pub next : List ℕ
  pub placed : IsPlaced old next path new j
  pub exact : (q : ℕ) → Contains next q ↔ ((holds_of nodes q b ≡ true) × Contains ahead q)
  pub some : (q : ℕ) × Contains next q
  pub places : IsPlaceList (length nodes) next

-- where the byte leads, and to nothing only where none of the leaves ahead holds it
abbrev pub IsMoved : List RegexNode → List ℕ → Path → ℕ → Found → Found → Option ℕ → Type 0
IsMoved nodes ahead path b old new None = (new ≡ old) × ((q : ℕ) → holds_of nodes q b ≡ true → Contains ahead q → ⊥)
IsMoved nodes ahead path b old new (Some j) = IsMovedTo nodes ahead path b old new j

-- the places are those of the state, and there is no state only where there are no places
abbrev pub IsTo : Found → List ℕ → Path → Found → Option ℕ → Type 0
IsTo old places path new None = (new ≡ old) × (places ≡ [])
IsTo old places path new (Some j) = IsPlaced old places path new j × (¬ (places ≡ []))

-- every path of the list is earlier than this one
abbrev pub AllBefore : List Path → Path → Type 0
AllBefore paths w = (j : ℕ) (u : Path) → slice_get paths j ≡ Some u → IsEarlier u w

-- the state has the starts of a set, and the empty path from there
pub record IsSetStart (t : Tables) (found : Found) (j : ℕ) : Type 0 where
  pub set : ℕ
  pub here : slice_get found.sets j ≡ Some (row t.starts set)
  pub here_path : slice_get found.paths j ≡ Some (record { set = set; text = [] })
  pub below : set < length t.starts

-- the state was found from an earlier one by a byte
pub record IsChild (t : Tables) (found : Found) (j : ℕ) : Type 0 where
  pub from : ℕ
  pub byte : ℕ
  pub set : List ℕ
  pub path : Path
  pub own : List ℕ
  pub earlier : from < j
  pub at : slice_get found.sets from ≡ Some set
  pub at_path : slice_get found.paths from ≡ Some path
  pub here : slice_get found.sets j ≡ Some own
  pub here_path : slice_get found.paths j ≡ Some (on path byte)
  pub exact : (q : ℕ) → Contains own q ↔ Reads t set byte q

-- states as they are found: each at the start of a set or from an earlier one, in the order of their paths
pub record AreFound (t : Tables) (found : Found) : Type 0 where
  pub len : length found.paths ≡ length found.sets
  pub places : (j : ℕ) (set : List ℕ) → slice_get found.sets j ≡ Some set → IsPlaceList (count_of t) set
  pub each : (j : ℕ) → j < length found.sets → IsSetStart t found j ⊎ IsChild t found j
  pub sorted : (i j : ℕ) (u v : Path) → i < j → slice_get found.paths i ≡ Some u → slice_get found.paths j ≡ Some v → IsEarlier u v

-- the states are as before, with others after them
pub record Extends (old new : Found) : Type 0 where
  pub sets : (j : ℕ) (set : List ℕ) → slice_get old.sets j ≡ Some set → slice_get new.sets j ≡ Some set
  pub paths : (j : ℕ) (path : Path) → slice_get old.paths j ≡ Some path → slice_get new.paths j ≡ Some path
  pub len : length old.sets ≤ length new.sets
