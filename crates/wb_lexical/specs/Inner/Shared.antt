-- A text that the two of some pair share, with a set that has both.
use Rattle.std.specs.Prelude.{ℕ, Bool, List, Contains}
use Rattle.wb_automata.specs.Automata.{IsConsidered, IsMatch}
use Rattle.wb_automata.specs.Order.{IsAtMost}
use Rattle.wb_regex.specs.Tree.{Tree}
use Rattle.wb_lexical.specs.declared.clash.Clash.{Clash}

-- the two terminals are one of the pairs and in the set, and both match the text, which is the least that they share
pub record IsSharedIn (terminals : List Tree) (sets : List (List Bool)) (pairs : List (ℕ × ℕ)) (clash : Clash) : Type 0 where
  pub pair : Contains pairs (clash.left, clash.right)
  pub left_in : IsConsidered sets clash.set clash.left
  pub right_in : IsConsidered sets clash.set clash.right
  pub left_matches : IsMatch terminals clash.left clash.text
  pub right_matches : IsMatch terminals clash.right clash.text
  pub least : (text : List ℕ) → IsMatch terminals clash.left text → IsMatch terminals clash.right text → IsAtMost clash.text text

-- no pair's two match a common text
abbrev pub SharesNone : List Tree → List (ℕ × ℕ) → Type 0
SharesNone terminals pairs = (t u : ℕ) (text : List ℕ) → Contains pairs (t, u) → IsMatch terminals t text → ¬ IsMatch terminals u text
