-- The lists of starts as they are made.
use Rattle.std.specs.Prelude.{◌≡◌, ◌+◌, ◌<◌, ℕ, Bool, List, Some, length, slice_get}
use Rattle.wb_automata_positions.specs.Rows.{row}
use Rattle.wb_automata_positions.specs.Transitions.{IsPlaceList}
use Rattle.wb_automata_positions.specs.Tables.{IsStartsOf}

-- the lists of starts are those of the first i sets
pub record AreStarts (n count : ℕ) (sets : List (List Bool)) (starts : List (List ℕ)) (i : ℕ) : Type 0 where
  pub len : length starts ≡ i
  pub each : (s : ℕ) (flags : List Bool) → s < i → slice_get sets s ≡ Some flags → IsStartsOf n count flags (row starts s)
  pub places : (s : ℕ) → IsPlaceList (n + count) (row starts s)
