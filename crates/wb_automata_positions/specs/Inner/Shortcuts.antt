-- Machines of places in which steps are left out.
use Rattle.std.specs.Prelude.{◌≡◌, ◌<◌, ◌≤◌, ◌⊎◌, ℕ, List, Some, Vec, length, slice_get, slice_index, slice_set}
use Rattle.std.specs.Prelude.{if◌then◌else◌, nat_lt}
use Rattle.std.specs.Global.{Global}
use Rattle.wb_regex.specs.Tree.{Tree}
use Rattle.wb_automata_positions.specs.declared.places.Place.{Place}
use Rattle.wb_automata_positions.specs.declared.places.Place.TheVariants as p
use Rattle.wb_automata_positions.specs.Places.{ArePlaces, ArePlacesBelow, GoesOn, Runs}

-- the one machine is one for the same expressions as the other
abbrev pub IsShorter : Vec Place Global → Vec ℕ Global → Vec Place Global → Vec ℕ Global → Type 0
IsShorter places starts places' starts' = (trees : List Tree) (first_end : ℕ)
    → ArePlaces trees (record { places = places; starts = starts; first_end = first_end })
    → ArePlaces trees (record { places = places'; starts = starts'; first_end = first_end })

-- whatever leads from the one place to an end leads there from the other
abbrev pub LeadsToo : List Place → ℕ → ℕ → Type 0
LeadsToo places i j = (k : ℕ) (x : List ℕ) → Runs places i k x → Runs places j k x

-- what is at a place waits for a byte or is an end
abbrev pub Waits : Place → Type 0
Waits (p.Read words next) = Unit {0}
Waits (p.Go next) = ⊥
Waits (p.Fork next other) = ⊥
Waits (p.End number) = Unit {0}

-- from the place one goes on at the other without reading
pub record IsMove (places : List Place) (i q : ℕ) : Type 0 where
  pub place : Place
  pub at : slice_get places i ≡ Some place
  pub goes : GoesOn place q

-- The places with other steps, each to where the old machine would lead too; entry i stands for place i, and either place i and where it
-- goes on have one entry, or the entry of the one goes on at the other.
pub record IsPrepared (old now : List Place) (entry : List ℕ) : Type 0 where
  pub len : length now ≡ length old
  pub entry_len : length entry ≡ length old
  pub entry_below : (i : ℕ) → i < length old → slice_index entry i < length old
  pub same : (i : ℕ) → i < length old → LeadsToo old (slice_index entry i) i
  pub below : ArePlacesBelow now
  pub moves : (i q : ℕ) → IsMove now i q → LeadsToo old q i
  pub waits : (i : ℕ) (place : Place) → slice_get now i ≡ Some place → Waits place → slice_get old i ≡ Some place
  pub kept : (i : ℕ) (place : Place) → slice_get old i ≡ Some place → Waits place
      → (slice_index entry i ≡ i) × (slice_get now i ≡ Some place)
  pub steps : (i q : ℕ) → IsMove old i q → (slice_index entry q ≡ slice_index entry i) ⊎ IsMove now (slice_index entry i) q

-- what is at a place, with the entries of where it goes on
abbrev pub retargeted : List ℕ → Place → Place
retargeted entry (p.Read words next) = p.Read words (slice_index entry next)
retargeted entry (p.Go next) = p.Go (slice_index entry next)
retargeted entry (p.Fork next other) = p.Fork (slice_index entry next) (slice_index entry other)
retargeted entry (p.End number) = p.End number

-- the first i places go on at entries
pub record AreRetargeted (old : List Place) (entry : List ℕ) (new : List Place) (i : ℕ) : Type 0 where
  pub len : length new ≡ length old
  pub done : (j : ℕ) (place : Place) → j < i → slice_get old j ≡ Some place → slice_get new j ≡ Some (retargeted entry place)
  pub rest : (j : ℕ) → i ≤ j → slice_get new j ≡ slice_get old j

-- the first i starts are entries of those before
pub record AreMoved (old entry new : List ℕ) (i : ℕ) : Type 0 where
  pub len : length new ≡ length old
  pub done : (j : ℕ) → j < i → slice_index new j ≡ slice_index entry (slice_index old j)
  pub rest : (j : ℕ) → i ≤ j → slice_index new j ≡ slice_index old j

-- the entry of a place that hands on to one before it, or itself
abbrev pub entry_at : List ℕ → ℕ → Place → ℕ
entry_at entry i (p.Read words next) = i
entry_at entry i (p.Go next) = if nat_lt next i then slice_index entry next else i
entry_at entry i (p.Fork next other) = i
entry_at entry i (p.End number) = i

-- place i hands on to an earlier one, whose entry it has
pub record HandsOn (places : List Place) (entry : List ℕ) (i : ℕ) : Type 0 where
  pub next : ℕ
  pub at : slice_get places i ≡ Some (p.Go next)
  pub earlier : next < i
  pub same : slice_index entry i ≡ slice_index entry next

-- the entries of the first i places
pub record AreEntries (places : List Place) (entry : List ℕ) (i : ℕ) : Type 0 where
  pub len : length entry ≡ i
  pub below : (j : ℕ) → j < i → slice_index entry j ≤ j
  pub each : (j : ℕ) → j < i → (slice_index entry j ≡ j) ⊎ HandsOn places entry j
  pub leads : (j : ℕ) → j < i → LeadsToo places (slice_index entry j) j

-- each of the first i numbers is in its own place
pub record AreIdentity (entry : List ℕ) (i : ℕ) : Type 0 where
  pub len : length entry ≡ i
  pub each : (j : ℕ) → j < i → slice_index entry j ≡ j

-- the choice at place i leads on to a star that leads to it, and is made one with it
pub record IsOneWith (i : ℕ) (places : List Place) (entry : List ℕ) (places' : List Place) (entry' : List ℕ) : Type 0 where
  pub part : ℕ
  pub next : ℕ
  pub other : ℕ
  pub at : slice_get places i ≡ Some (p.Fork part next)
  pub later : i < next
  pub at_star : slice_get places (slice_index entry next) ≡ Some (p.Fork i other)
  pub places_are : places' ≡ slice_set places (slice_index entry next) (p.Fork part other)
  pub entry_is : entry' ≡ slice_set entry i (slice_index entry next)

-- or nothing changes
abbrev pub IsMergedAt : ℕ → List Place → List ℕ → List Place → List ℕ → Type 0
IsMergedAt i places entry places' entry' = ((places' ≡ places) × (entry' ≡ entry)) ⊎ IsOneWith i places entry places' entry'

-- the places from i on are merged, and those below i are as they were
pub record AreMerged (old now : List Place) (entry : List ℕ) (i : ℕ) : Type 0 where
  pub prepared : IsPrepared old now entry
  pub within : i ≤ length old
  pub first : (j : ℕ) → j < i → slice_get now j ≡ slice_get old j
  pub own : (j : ℕ) → j < i → slice_index entry j ≡ j
  pub rises : (j : ℕ) → j < length old → j ≤ slice_index entry j
  pub again : (j : ℕ) → j < length old → slice_index entry (slice_index entry j) ≡ slice_index entry j
