-- Nonterminals that derive themselves: unit cycles and hidden left recursion.
use Rattle.std.specs.Prelude.{◌≡◌, ◌≢◌, ◌<◌, ◌+◌, ◌⊎◌, ℕ, List, [], ◌∷◌, ◌++◌, length, slice_get, Some}
use Rattle.wb_base.specs.declared.symbol.Symbol.{Symbol}
use Rattle.wb_base.specs.declared.symbol.Symbol.TheVariants.{Nonterminal}
use Rattle.wb_base.specs.Grammar.{GrammarView}
use Rattle.wb_grammar_theory.specs.Productions.{IsProduction}
use Rattle.wb_grammar_theory.specs.Derives.{Derives}

-- the nonterminal a derives b alone in one or more steps
abbrev pub DerivesAlone : GrammarView → ℕ → ℕ → Type 0
DerivesAlone g a b = (p : ℕ) × (right : List Symbol) × IsProduction g p a right × Derives g right (Nonterminal b ∷ [])

-- the nonterminal derives itself in one or more steps
abbrev pub DerivesItself : GrammarView → ℕ → Type 0
DerivesItself g a = DerivesAlone g a a

-- the nonterminal derives `b A c` in one or more steps, where A is itself, and b is at least one symbol and derives the empty text
abbrev pub IsHiddenLeftRecursive : GrammarView → ℕ → Type 0
IsHiddenLeftRecursive g a =
    (p : ℕ) × (right b c : List Symbol) × IsProduction g p a right × Derives g right (b ++ Nonterminal a ∷ c) × (b ≢ []) × Derives g b []

-- no nonterminal derives itself in one or more steps
abbrev pub HasNoUnitCycle : GrammarView → Type 0
HasNoUnitCycle g = (a : ℕ) → ¬ DerivesItself g a

-- no nonterminal is hidden left recursive
abbrev pub HasNoHiddenLeftRecursion : GrammarView → Type 0
HasNoHiddenLeftRecursion g = (a : ℕ) → ¬ IsHiddenLeftRecursive g a

-- a production of a has b, and all that is beside it derives the empty text
pub record IsUnitProduction (g : GrammarView) (a b : ℕ) : Type 0 where
  pub p : ℕ
  pub before : List Symbol
  pub after : List Symbol
  pub rule : IsProduction g p a (before ++ Nonterminal b ∷ after)
  pub before_empty : Derives g before []
  pub after_empty : Derives g after []

-- a is the left side of a production with b in it after symbols that derive the empty text
pub record IsLeftCorner (g : GrammarView) (a b : ℕ) : Type 0 where
  pub p : ℕ
  pub before : List Symbol
  pub after : List Symbol
  pub rule : IsProduction g p a (before ++ Nonterminal b ∷ after)
  pub before_empty : Derives g before []

-- the same, where these symbols are at least one
pub record IsHiddenCorner (g : GrammarView) (a b : ℕ) : Type 0 where
  pub corner : IsLeftCorner g a b
  pub hides : corner.before ≢ []

-- a is in the list with b at the next place, or at the last place with b at the first
pub record IsFollowedBy (list : List ℕ) (a b : ℕ) : Type 0 where
  pub place : ℕ
  pub one : slice_get list place ≡ Some a
  pub other : (slice_get list (place + 1) ≡ Some b) ⊎ ((place + 1 ≡ length list) × (slice_get list 0 ≡ Some b))

-- the list isn't empty, and the relation leads from each to the next and from the last to the first
pub record IsCycleOf (R : ℕ → ℕ → Type 0) (list : List ℕ) : Type 0 where
  pub nonempty : 0 < length list
  pub each : (a b : ℕ) → IsFollowedBy list a b → R a b

-- nonterminals each of which derives the next alone, and the last the first, in one or more steps
abbrev pub IsUnitCycle : GrammarView → List ℕ → Type 0
IsUnitCycle g list = IsCycleOf (DerivesAlone g) list

-- nonterminals each the left side of a production with the next in it, and the last with the first, after symbols that derive the empty
-- text, and at one place these are at least one
pub record IsHiddenCycle (g : GrammarView) (list : List ℕ) : Type 0 where
  pub cycle : IsCycleOf (IsLeftCorner g) list
  pub above : ℕ
  pub below : ℕ
  pub place : IsFollowedBy list above below
  pub hidden : IsHiddenCorner g above below
