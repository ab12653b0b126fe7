-- What the symbols after a place of a right side begin with.
use Rattle.std.specs.Prelude.{◌≡◌, ◌↔◌, ◌⊎◌, ◌+◌, ℕ, Bool, IsTrue, List, [], ◌∷◌, All, length, Some, drop, slice_get}
use Rattle.wb_base.specs.declared.symbol.Symbol.{Symbol}
use Rattle.wb_base.specs.declared.symbol.Symbol.TheVariants.{Nonterminal}
use Rattle.wb_base.specs.Grammar.{GrammarView}
use Rattle.wb_termset.specs.Sets.{IsMember}
use Rattle.wb_grammar_theory.specs.Productions.{IsProduction}
use Rattle.wb_grammar_theory.specs.Derives.{Derives, IsFirst}
use Rattle.wb_lookahead.specs.declared.first_of.Rest.{Rest}

-- the set has the terminals that begin what the symbols derive, and the answer says whether they derive the empty text
pub record IsRest (g : GrammarView) (w : List Symbol) (rest : Rest) : Type 0 where
  pub len : length rest.set ≡ g.terminals + 1
  pub first : (u : ℕ) → IsMember rest.set u ↔ IsFirst g w u
  pub empty : IsTrue rest.empty ↔ Derives g w []

-- a set in the making: what begins all symbols is in it, or begins those that are left, and those before them derive the empty text
pub record BeginsSoFar (g : GrammarView) (w : List Symbol) (set : List Bool) (left : List Symbol) : Type 0 where
  pub len : length set ≡ g.terminals + 1
  pub first : (u : ℕ) → IsFirst g w u ↔ (IsMember set u ⊎ IsFirst g left u)
  pub empty : Derives g w [] ↔ Derives g left []

-- the terminal comes after the nonterminal in one of its own productions, which begins with it
pub record Repeats (g : GrammarView) (b u : ℕ) : Type 0 where
  pub q : ℕ
  pub rest : List Symbol
  pub production : IsProduction g q b (Nonterminal b ∷ rest)
  pub first : IsFirst g rest u

-- a set for each nonterminal, whose members are such terminals
pub record AreRepeats (g : GrammarView) (sets : List (List Bool)) : Type 0 where
  pub len : length sets ≡ g.nonterminals
  pub widths : All (λ set. length set ≡ g.terminals + 1) sets
  pub sound : (b u : ℕ) (set : List Bool) → slice_get sets b ≡ Some set → IsMember set u → Repeats g b u

-- the set of the symbol, where it is a nonterminal, was joined to the rest's
pub record Joins (symbol : Symbol) (repeats : List (List Bool)) (old new : Rest) : Type 0 where
  pub len : length new.set ≡ length old.set
  pub keeps : (u : ℕ) → IsMember old.set u → IsMember new.set u
  pub only : (u : ℕ) → IsMember new.set u → IsMember old.set u ⊎
      ((b : ℕ) × (set : List Bool) × (symbol ≡ Nonterminal b) × (slice_get repeats b ≡ Some set) × IsMember set u)
  pub empty : new.empty ≡ old.empty

-- the set has the terminals that begin the symbols after this one, and else those alone that the symbol repeats
pub record IsOpening (g : GrammarView) (x : Symbol) (w : List Symbol) (rest : Rest) : Type 0 where
  pub len : length rest.set ≡ g.terminals + 1
  pub first : (u : ℕ) → IsFirst g w u → IsMember rest.set u
  pub sound : (u : ℕ) → IsMember rest.set u → IsFirst g w u ⊎ ((b : ℕ) × (x ≡ Nonterminal b) × Repeats g b u)
  pub empty : IsTrue rest.empty ↔ Derives g w []

-- for each place of the right side, what opens the symbol there
pub record AreRestsOf (g : GrammarView) (right : List Symbol) (row : List Rest) : Type 0 where
  pub len : length row ≡ length right
  pub each : (d : ℕ) (rest : Rest) (x : Symbol) → slice_get row d ≡ Some rest → slice_get right d ≡ Some x →
      IsOpening g x (drop (d + 1) right) rest

-- for each production, and each place of its right side, what opens the symbol there
pub record AreRests (g : GrammarView) (rests : List (List Rest)) : Type 0 where
  pub len : length rests ≡ length g.productions
  pub each : (p a : ℕ) (right : List Symbol) (row : List Rest) → slice_get rests p ≡ Some row → IsProduction g p a right →
      AreRestsOf g right row
