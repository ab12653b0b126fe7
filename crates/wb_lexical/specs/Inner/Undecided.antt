-- Pairs of terminals that no preference orders, at the states of an automaton.
use Rattle.std.specs.Prelude.{◌<◌, ℕ, List, Contains}
use Rattle.wb_automata.specs.Automata.{AutomatonView, IsMatch, MatchesIn}
use Rattle.wb_automata.specs.Order.{IsAtMost}
use Rattle.wb_lexical.specs.Clash.{AreOrdered}

-- the first terminal is less than the second, both are listed, and no preference orders them
pub record IsUndecided (accepted : List ℕ) (preferences : List (ℕ × ℕ)) (left right : ℕ) : Type 0 where
  pub less : left < right
  pub left_listed : Contains accepted left
  pub right_listed : Contains accepted right
  pub unordered : ¬ AreOrdered preferences left right

-- both terminals of the set match the text, which is the least that they share, and no preference orders them
pub record IsLeastClash (automaton : AutomatonView) (preferences : List (ℕ × ℕ)) (set left right : ℕ) (text : List ℕ) : Type 0 where
  pub less : left < right
  pub left_matches : MatchesIn automaton set left text
  pub right_matches : MatchesIn automaton set right text
  pub unordered : ¬ AreOrdered preferences left right
  pub least : (other : List ℕ) → IsMatch automaton.terminals left other → IsMatch automaton.terminals right other → IsAtMost text other

-- no two terminals of a set match a text with no preference between them
abbrev pub HasNoUndecided : AutomatonView → List (ℕ × ℕ) → Type 0
HasNoUndecided automaton preferences = (set left right : ℕ) (text : List ℕ) → left < right → MatchesIn automaton set left text
    → MatchesIn automaton set right text → ¬ ¬ AreOrdered preferences left right
