-- What an automaton keeps: a start for each set, a table of moves by classes of bytes, and a list of terminals for each state.
use Rattle.std.specs.Prelude.{◌≡◌, ◌+◌, ◌*◌, ◌<◌, ◌≤◌, ◌↔◌, ℕ, Option, Some, None, List, [], ◌∷◌, ◌++◌, Contains, length, slice_get}
use Rattle.std.specs.Prelude.{slice_index, slice_index_or}
use Rattle.wb_automata_positions.specs.Rows.{row}
use Rattle.wb_automata_positions.specs.Rising.{AreRising}
use Rattle.wb_automata.specs.Automata.{AutomatonView, Path, MatchesIn, GoesOn, AreAlike, IsOrdered, IsMatch, LeadsTo, most_states}

-- the byte leads from the path to this state, and some match goes on so
pub record IsStep (automaton : AutomatonView) (path : Path) (b next : ℕ) : Type 0 where
  pub own : Path
  pub at : slice_get automaton.paths next ≡ Some own
  pub alike : AreAlike automaton (record { set = path.set; text = path.text ++ b ∷ [] }) own
  pub goes : GoesOn automaton path.set (path.text ++ b ∷ [])

-- where the byte leads from the path, and nowhere only where no match goes on so
abbrev pub IsStepOf : AutomatonView → Path → ℕ → Option ℕ → Type 0
IsStepOf automaton path b None = ¬ GoesOn automaton path.set (path.text ++ b ∷ [])
IsStepOf automaton path b (Some next) = IsStep automaton path b next

-- starts, table and lists are those of the automaton
pub record IsAutomaton (automaton : AutomatonView) (starts classes : List ℕ) (width : ℕ) (moves : List (Option ℕ))
    (accepted : List (List ℕ)) : Type 0 where
  pub starts_len : length starts ≡ length automaton.sets
  pub begins : (s : ℕ) → s < length starts → LeadsTo automaton s [] (slice_index starts s)
  pub classes_len : length classes ≡ 256
  pub classes_below : (b : ℕ) → b < 256 → slice_index classes b < width
  pub moves_len : length moves ≡ length automaton.paths * width
  pub accepted_len : length accepted ≡ length automaton.paths
  pub steps : (s b : ℕ) (path : Path) → b < 256 → slice_get automaton.paths s ≡ Some path → IsStepOf automaton path b
      (slice_index_or moves (s * width + slice_index classes b) None)
  pub accepts : (s k : ℕ) (path : Path) → slice_get automaton.paths s ≡ Some path → Contains
      (row accepted s) k ↔ MatchesIn automaton path.set k path.text
  pub rising : (s : ℕ) → AreRising (row accepted s)
  pub ordered : IsOrdered automaton
  pub sets_below : (s : ℕ) (path : Path) → slice_get automaton.paths s ≡ Some path → path.set < length automaton.sets
  pub few : length automaton.paths ≤ most_states automaton.terminals
  pub not_empty : (terminal : ℕ) → ¬ IsMatch automaton.terminals terminal []
  pub filled : (terminal : ℕ) → terminal < length automaton.terminals → (text : List ℕ) × IsMatch automaton.terminals terminal text
