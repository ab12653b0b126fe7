-- The terminals that states accept, as lists.
use Rattle.std.specs.Prelude.{◌≡◌, ◌<◌, ◌↔◌, ◌∷◌, ◌++◌, [], ℕ, Some, List, Contains, length, slice_get}
use Rattle.wb_automata_positions.specs.declared.tables.Tables.{Tables}
use Rattle.wb_automata_positions.specs.Rows.{row}
use Rattle.wb_automata_positions.specs.Rising.{AreRising}
use Rattle.wb_automata_positions.specs.Transitions.{EndsAfter}

-- the lists are those of the first i states
pub record AreAccepted (t : Tables) (sets accepted : List (List ℕ)) (i : ℕ) : Type 0 where
  pub len : length accepted ≡ i
  pub rising : (j : ℕ) → AreRising (row accepted j)
  pub each : (j k : ℕ) (set : List ℕ) → j < i → slice_get sets j ≡ Some set → Contains (row accepted j) k ↔ EndsAfter t set k

-- the list of a set of leaves and starts is put after the others
pub record IsAccepted (t : Tables) (set : List ℕ) (old new : List (List ℕ)) : Type 0 where
  pub all : List ℕ
  pub last : new ≡ old ++ all ∷ []
  pub rising : AreRising all
  pub exact : (k : ℕ) → Contains all k ↔ EndsAfter t set k
