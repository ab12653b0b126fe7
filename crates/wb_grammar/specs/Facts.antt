-- What an analysis knows of a grammar.
use Rattle.std.specs.Prelude.{◌≡◌, ◌+◌, ◌↔◌, ℕ, Bool, List, [], ◌∷◌, All, length, slice_index_or}
use Rattle.wb_base.specs.declared.symbol.Symbol.TheVariants.{Nonterminal}
use Rattle.wb_base.specs.Grammar.{GrammarView}
use Rattle.wb_termset.specs.Sets.{IsMember}
use Rattle.wb_grammar_theory.specs.Derives.{IsNullable, IsFirst}
use Rattle.wb_grammar_theory.specs.Shape.{IsReduced, IsLive}
use Rattle.wb_grammar_theory.specs.Cycles.{HasNoUnitCycle, HasNoHiddenLeftRecursion}

-- a set of nonterminals, and for each nonterminal a set of terminals
pub record FactsView : Type 0 where
  pub nullable : List Bool
  pub first : List (List Bool)

-- the set of this nonterminal
abbrev pub set_of : List (List Bool) → ℕ → List Bool
set_of sets a = slice_index_or sets a []

-- the set has the nonterminals that derive the empty text, and the grammar has so many
pub record IsNullableSet (g : GrammarView) (set : List Bool) : Type 0 where
  pub len : length set ≡ g.nonterminals
  pub each : (a : ℕ) → IsMember set a ↔ IsNullable g a

-- a set for each nonterminal, with room for the terminals and the end of a text
pub record AreSets (g : GrammarView) (sets : List (List Bool)) : Type 0 where
  pub len : length sets ≡ g.nonterminals
  pub each : All (λ set. length set ≡ g.terminals + 1) sets

-- the set of each nonterminal has the terminals that begin what it derives
pub record AreFirstSets (g : GrammarView) (sets : List (List Bool)) : Type 0 where
  pub shape : AreSets g sets
  pub each : (a t : ℕ) → IsMember (set_of sets a) t ↔ IsFirst g (Nonterminal a ∷ []) t

-- the facts are those of the grammar, which is reduced and has neither unit cycles nor hidden left recursion. So it is live: for each
-- item with a symbol after its dot, and each terminal, some terminal begins what the symbols after that one derive with the terminal last
pub record AreFacts (g : GrammarView) (facts : FactsView) : Type 0 where
  pub reduced : IsReduced g
  pub live : IsLive g
  pub no_unit_cycle : HasNoUnitCycle g
  pub no_hidden_left_recursion : HasNoHiddenLeftRecursion g
  pub nullable : IsNullableSet g facts.nullable
  pub first : AreFirstSets g facts.first
