-- Where bytes lead from the states that were found.
use Rattle.std.specs.Prelude.{◌≡◌, ◌+◌, ◌*◌, ◌^◌, ◌<◌, ◌≤◌, ◌↔◌, ◌⊎◌, ℕ, Option, Some, None, List, [], Contains, length, slice_get}
use Rattle.std.specs.Prelude.{slice_index, slice_index_or}
use Rattle.wb_automata_positions.specs.declared.tables.Tables.{Tables}
use Rattle.wb_automata.specs.Automata.{Path, IsEarlier}
use Rattle.wb_automata_positions.specs.Rows.{row}
use Rattle.wb_automata_positions.specs.Transitions.{Ahead, IsPlaceList, count_of}
use Rattle.wb_automata.specs.Inner.Found.{Reads, Found, AreFound, Extends, AllBefore, on}

-- the byte leads from the places of a state to those of another, whose path isn't later than that of the state with the byte
pub record LeadsOn (t : Tables) (found : Found) (set : List ℕ) (path : Path) (b j : ℕ) : Type 0 where
  pub next : List ℕ
  pub own : Path
  pub at : slice_get found.sets j ≡ Some next
  pub at_path : slice_get found.paths j ≡ Some own
  pub exact : (q : ℕ) → Contains next q ↔ Reads t set b q
  pub some : (q : ℕ) × Contains next q
  pub least : (own ≡ on path b) ⊎ IsEarlier own (on path b)

-- the move leads nowhere only where no leaf reads the byte, and else to the state of those that do
abbrev pub IsMove : Tables → Found → List ℕ → Path → ℕ → Option ℕ → Type 0
IsMove t found set path b None = (q : ℕ) → Reads t set b q → ⊥
IsMove t found set path b (Some j) = LeadsOn t found set path b j

-- the moves of the first i states, and those of state i by the first c of the bytes, one after the other
pub record AreMoves (t : Tables) (bytes : List ℕ) (found : Found) (moves : List (Option ℕ)) (i c : ℕ) : Type 0 where
  pub len : length moves ≡ i * length bytes + c
  pub lead : (j k : ℕ) (set : List ℕ) (path : Path) → (j < i) ⊎ ((j ≡ i) × (k < c)) → k < length bytes → slice_get found.sets j ≡ Some set
      → slice_get found.paths j ≡ Some path → IsMove t found set path (slice_index bytes k)
      (slice_index_or moves (j * length bytes + k) None)

-- every path is earlier than that of the state with any byte after it
pub record IsReady (found : Found) (i : ℕ) : Type 0 where
  pub set : List ℕ
  pub path : Path
  pub at : slice_get found.sets i ≡ Some set
  pub at_path : slice_get found.paths i ≡ Some path
  pub ahead : (b : ℕ) → AllBefore found.paths (on path b)

-- each path begins at one of the first sets
abbrev pub SetsBelow : ℕ → Found → Type 0
SetsBelow top found = (j : ℕ) (path : Path) → slice_get found.paths j ≡ Some path → path.set < top

-- no path begins at a later set than those before
abbrev pub KeepsSets : Found → Found → Type 0
KeepsSets old found = (top : ℕ) → SetsBelow top old → SetsBelow top found

-- within the state i: what may come after its places, and its moves by the first c of the bytes
pub record RowPass (t : Tables) (bytes : List ℕ) (old found : Found) (i : ℕ) (ahead : List ℕ) (moves : List (Option ℕ))
    (c : ℕ) : Type 0 where
  pub set : List ℕ
  pub path : Path
  pub at : slice_get found.sets i ≡ Some set
  pub at_path : slice_get found.paths i ≡ Some path
  pub is : (q : ℕ) → Contains ahead q ↔ Ahead t set q
  pub places : IsPlaceList (length t.nodes.items) ahead
  pub extends : Extends old found
  pub sets_kept : KeepsSets old found
  pub found_ok : AreFound t found
  pub are_moves : AreMoves t bytes found moves i c
  pub edge : (b : ℕ) → ((k : ℕ) → k < c → slice_index bytes k < b) → AllBefore found.paths (on path b)

-- the moves of the first i states
pub record RowsPass (t : Tables) (bytes : List ℕ) (found : Found) (moves : List (Option ℕ)) (i : ℕ) : Type 0 where
  pub within : i ≤ length found.sets
  pub found_ok : AreFound t found
  pub ready : i < length found.sets → IsReady found i
  pub are_moves : AreMoves t bytes found moves i 0

-- the same, after states that were there before
pub record RowsFrom (t : Tables) (bytes : List ℕ) (old found : Found) (moves : List (Option ℕ)) (i : ℕ) : Type 0 where
  pub extends : Extends old found
  pub sets_kept : KeepsSets old found
  pub rows : RowsPass t bytes found moves i

-- the state has the starts of the set, and no later path
pub record StartsAt (t : Tables) (found : Found) (set state : ℕ) : Type 0 where
  pub path : Path
  pub at : slice_get found.sets state ≡ Some (row t.starts set)
  pub at_path : slice_get found.paths state ≡ Some path
  pub least : (path ≡ record { set = set; text = [] }) ⊎ IsEarlier path (record { set = set; text = [] })

-- all states that are found from the starts of the first s sets, and all their moves
pub record AreExplored (t : Tables) (bytes : List ℕ) (found : Found) (moves : List (Option ℕ)) (starts : List ℕ) (s : ℕ) : Type 0 where
  pub few : length found.sets ≤ 2 ^ count_of t
  pub rows : RowsPass t bytes found moves (length found.sets)
  pub sets_below : SetsBelow s found
  pub starts_len : length starts ≡ s
  pub starts_at : (j : ℕ) → j < s → StartsAt t found j (slice_index starts j)
