-- The first group that has the ends of two expressions.
use Rattle.std.specs.Prelude.{◌≡◌, ◌<◌, ◌≤◌, ℕ, Option, Some, None, List, length}
use Rattle.wb_automata_positions.specs.declared.places.Place.{Place}
use Rattle.wb_automata.specs.declared.walk.Ending.{Ending}
use Rattle.wb_automata.specs.Order.{IsAtMost}
use Rattle.wb_automata.specs.Inner.Pairs.{HasEnds, LeadsToBoth, Met, path_at}
use Rattle.wb_automata_positions.specs.Rows.{row}

-- the path of the group leads to both ends, and no text that leads to two ends is before it
pub record IsFirstEnding (places : List Place) (seeds : List ℕ) (met : Met) (ending : Ending) : Type 0 where
  pub within : ending.group < length met.paths
  pub leads : LeadsToBoth places seeds ending.left ending.right (path_at met.paths ending.group).text
  pub least : (i j : ℕ) (text : List ℕ) → LeadsToBoth places seeds i j text → IsAtMost (path_at met.paths ending.group).text text

-- the first group that has two ends, or that no text leads to two ends
abbrev pub IsEnding : List Place → List ℕ → Met → Option Ending → Type 0
IsEnding places seeds met None = (i j : ℕ) (text : List ℕ) → ¬ LeadsToBoth places seeds i j text
IsEnding places seeds met (Some ending) = IsFirstEnding places seeds met ending

-- none of the first groups has the ends of two expressions
abbrev pub AreApartBelow : List Place → List (List ℕ) → ℕ → Type 0
AreApartBelow places groups count = (g i j : ℕ) → g < count → ¬ HasEnds places (row groups g) i j

-- the groups are as before, with others after them
pub record KeepRows (old new : List (List ℕ)) : Type 0 where
  pub rows : (g : ℕ) → g < length old → row new g ≡ row old g
  pub len : length old ≤ length new
