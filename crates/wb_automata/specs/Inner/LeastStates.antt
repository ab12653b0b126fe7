-- The first state that accepts a terminal.
use Rattle.std.specs.Prelude.{◌≡◌, ◌<◌, ◌⊎◌, ℕ, Bool, List, [], ◌∷◌, Some, slice_get}
use Rattle.wb_termset.specs.Sets.{IsMember}
use Rattle.wb_automata.specs.Automata.{AutomatonView, Path, IsEarlier, MatchesIn, LeadsTo}

-- one set has all numbers below the count
pub record HasAll (count : ℕ) (sets : List (List Bool)) : Type 0 where
  pub set : List Bool
  pub one : sets ≡ set ∷ []
  pub all : (t : ℕ) → t < count → IsMember set t

-- the terminal matches the text of the state's path, and that of no earlier path
pub record IsLeastState (automaton : AutomatonView) (terminal state : ℕ) : Type 0 where
  pub path : Path
  pub at : slice_get automaton.paths state ≡ Some path
  pub matches : MatchesIn automaton path.set terminal path.text
  pub least : (set : ℕ) (other : List ℕ) → MatchesIn automaton set terminal other →
      (path ≡ record { set = set; text = other }) ⊎ IsEarlier path (record { set = set; text = other })

-- the terminal matches no text that leads to one of the first n states
abbrev pub AreApartBelow : AutomatonView → ℕ → ℕ → Type 0
AreApartBelow automaton terminal n = (state set : ℕ) (text : List ℕ) → state < n → LeadsTo automaton set text state
    → ¬ MatchesIn automaton set terminal text
