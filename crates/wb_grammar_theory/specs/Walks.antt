-- Walks between nonterminals, and the walks of left corners that show hidden left recursion.
use Rattle.std.specs.Prelude.{ℕ}
use Rattle.wb_base.specs.Grammar.{GrammarView}
use Rattle.wb_grammar_theory.specs.Cycles.{IsLeftCorner, IsHiddenCorner}

-- the relation leads from a to b in one or more steps
pub data Walk (R : ℕ → ℕ → Type 0) : ℕ → ℕ → Type 0 where
  one : {a b : ℕ} → R a b → Walk R a b
  more : {a b c : ℕ} → R a b → Walk R b c → Walk R a c

-- left corners lead from a to b in one or more steps, at least one of which is hidden
pub data HiddenWalk (g : GrammarView) : ℕ → ℕ → Type 0 where
  last : {a b : ℕ} → IsHiddenCorner g a b → HiddenWalk g a b
  here : {a b c : ℕ} → IsHiddenCorner g a b → Walk (IsLeftCorner g) b c → HiddenWalk g a c
  later : {a b c : ℕ} → IsLeftCorner g a b → HiddenWalk g b c → HiddenWalk g a c
