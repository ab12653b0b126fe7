-- What the symbols after a place of a right side begin with.
use Rattle.std.specs.Prelude.{◌≡◌, ◌↔◌, ◌+◌, ℕ, IsTrue, List, [], Some, drop, length, slice_get}
use Rattle.wb_base.specs.declared.symbol.Symbol.{Symbol}
use Rattle.wb_base.specs.Grammar.{GrammarView}
use Rattle.wb_termset.specs.Sets.{IsMember}
use Rattle.wb_grammar_theory.specs.Derives.{Derives, IsFirst}
use Rattle.wb_grammar_theory.specs.Productions.{IsProduction}
use Rattle.wb_determinism_lookaheads.specs.declared.rests.Rest.{Rest}

-- the set has the terminals that begin what the symbols derive, and the answer says whether they derive the empty text
pub record IsRest (g : GrammarView) (w : List Symbol) (rest : Rest) : Type 0 where
  pub len : length rest.set ≡ g.terminals + 1
  pub first : (u : ℕ) → IsMember rest.set u ↔ IsFirst g w u
  pub empty : IsTrue rest.empty ↔ Derives g w []

-- for each place of the right side, what the symbols after it begin with
pub record AreRestsOf (g : GrammarView) (right : List Symbol) (row : List Rest) : Type 0 where
  pub len : length row ≡ length right
  pub each : (d : ℕ) (rest : Rest) → slice_get row d ≡ Some rest → IsRest g (drop (d + 1) right) rest

-- for each production, and each place of its right side, what the symbols after it begin with
pub record AreRests (g : GrammarView) (rests : List (List Rest)) : Type 0 where
  pub len : length rests ≡ length g.productions
  pub each : (p a : ℕ) (right : List Symbol) (row : List Rest) → slice_get rests p ≡ Some row → IsProduction g p a right →
      AreRestsOf g right row
