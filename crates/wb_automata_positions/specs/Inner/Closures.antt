-- Places that are met one after another, without reading.
use Rattle.std.specs.Prelude.{◌≡◌, ◌<◌, ◌≤◌, ◌↔◌, ◌⊎◌, ◌++◌, ℕ, List, Contains, length, slice_index}
use Rattle.wb_regex.specs.declared.node.RegexNode.{RegexNode}
use Rattle.wb_regex.specs.declared.node.RegexNode.TheVariants as n
use Rattle.wb_automata_positions.specs.declared.tables.Tables.{Tables}
use Rattle.wb_automata_positions.specs.NodePlaces.{Reaches, place_of}
use Rattle.wb_automata_positions.specs.Places.{GoesOn}
use Rattle.wb_automata_positions.specs.Transitions.{entry_of}

-- the list goes on, with all that is wanted and nothing else
pub record Adds (wanted : ℕ → Type 0) (old new : List ℕ) : Type 0 where
  pub more : List ℕ
  pub extends : new ≡ old ++ more
  pub exact : (d : ℕ) → Contains new d ↔ (Contains old d ⊎ wanted d)

-- the place is where one goes on after some number of the set
pub record IsEntry (t : Tables) (set : List ℕ) (d : ℕ) : Type 0 where
  pub from : ℕ
  pub has : Contains set from
  pub is : d ≡ entry_of t from

-- from some place of the list one comes to this one without reading
pub record IsBehind (nodes : List RegexNode) (next old : List ℕ) (d : ℕ) : Type 0 where
  pub from : ℕ
  pub has : Contains old from
  pub reaches : Reaches nodes next from d

-- the list goes on with places that are reached, and where one goes on from its first i places is in it
pub record Closes (nodes : List RegexNode) (next old new : List ℕ) (i : ℕ) : Type 0 where
  pub more : List ℕ
  pub extends : new ≡ old ++ more
  pub sound : (d : ℕ) → Contains new d → IsBehind nodes next old d
  pub within : i ≤ length new
  pub closed : (k d : ℕ) → k < i → GoesOn (place_of nodes next (slice_index new k)) d → Contains new d

-- the node is a set of bytes
abbrev pub IsSet : RegexNode → Type 0
IsSet (n.Set words) = Unit {0}
IsSet (n.Sequence i j) = ⊥
IsSet (n.Choice i j) = ⊥
IsSet (n.Star i) = ⊥
IsSet (n.Plus i) = ⊥
IsSet (n.Maybe i) = ⊥
