-- The kernels of a grammar's prefixes by numbers, and lookaheads as they flow between them.
use Rattle.std.specs.Prelude.{◌≡◌, ◌↔◌, ℕ, ◌<◌, List, [], ◌∷◌, ◌++◌}
use Rattle.wb_base.specs.declared.symbol.Symbol.{Symbol}
use Rattle.wb_base.specs.declared.symbol.Symbol.TheVariants.{Terminal, Nonterminal}
use Rattle.wb_base.specs.Grammar.{GrammarView}
use Rattle.wb_grammar_theory.specs.declared.item.Item.{Item}
use Rattle.wb_grammar_theory.specs.Productions.{IsProduction, end_of}
use Rattle.wb_grammar_theory.specs.Derives.{IsFirst}
use Rattle.wb_grammar_theory.specs.Items.{after_dot, advance, initial_item, IsViablePrefix, SameKernel, start_item}

-- the kernel numbered s' is that of the prefix of the kernel s with the symbol x after it, and both numbers are below the count
abbrev pub IsNext : GrammarView → ℕ → (ℕ → List Symbol) → ℕ → Symbol → ℕ → Type 0
IsNext g count prefix_of s x s' = (s < count) × (s' < count) × IsViablePrefix g (prefix_of s ++ x ∷ []) ×
    SameKernel g (prefix_of s') (prefix_of s ++ x ∷ [])

-- so many numbers, each with a prefix: each kernel of a prefix has exactly one of them, that of the empty prefix 0, and `Next` is where a
-- symbol leads
pub record AreStates (g : GrammarView) (count : ℕ) (prefix_of : ℕ → List Symbol) (Next : ℕ → Symbol → ℕ → Type 0) : Type 0 where
  pub first : prefix_of 0 ≡ []
  pub prefixes : (s : ℕ) → s < count → IsViablePrefix g (prefix_of s)
  pub each_once : (s s' : ℕ) → s < count → s' < count → SameKernel g (prefix_of s) (prefix_of s') → s ≡ s'
  pub all : (prefix : List Symbol) → IsViablePrefix g prefix → (s : ℕ) × (s < count) × SameKernel g (prefix_of s) prefix
  pub next : (s : ℕ) (x : Symbol) (s' : ℕ) → Next s x s' ↔ IsNext g count prefix_of s x s'

-- a lookahead of an item at a number: `end` at the start item, what the rules of valid items give within one kernel, and what a move brings
pub data Flows (g : GrammarView) (Next : ℕ → Symbol → ℕ → Type 0) : ℕ → Item → ℕ → Type 0 where
  start : Flows g Next 0 (start_item g) (end_of g)
  close : (item : Item) (t b : ℕ) (rest : List Symbol) (q u : ℕ) (right : List Symbol) {s : ℕ} → Flows g Next s item t →
      after_dot g item ≡ Nonterminal b ∷ rest → IsProduction g q b right → IsFirst g (rest ++ Terminal t ∷ []) u →
      Flows g Next s (initial_item q) u
  move : (item : Item) (x : Symbol) (rest : List Symbol) (s : ℕ) {t s' : ℕ} {moved : Item} → Flows g Next s item t →
      after_dot g item ≡ x ∷ rest → Next s x s' → moved ≡ advance item → Flows g Next s' moved t
