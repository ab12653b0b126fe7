-- What symbols begin with, and whether they derive the empty text, from left to right.
use Rattle.std.proofs.Common.{◌≡◌, ℕ, ◌⊎◌, List, [], ◌∷◌, ◌++◌, refl, subst, inl, inr}
use Rattle.std.specs.Prelude.{◌↔◌}
use Rattle.wb_base.specs.declared.symbol.Symbol.{Symbol}
use Rattle.wb_base.specs.declared.symbol.Symbol.TheVariants.{Terminal, Nonterminal}
use Rattle.wb_base.specs.Grammar.{GrammarView}
use Rattle.wb_grammar_theory.specs.Derives.{Derives, done, keep, expand, IsFirst}
use Rattle.wb_grammar_theory.proofs.DerivesLemmas.{Derives-same, Derives-append, First-append, First-cons, First-of_tail}
use Rattle.wb_grammar_theory.proofs.DerivesLemmas.{Nullable-parts, Terminal-not_nullable}

-- a terminal begins what it begins
pub terminal_first : {g : GrammarView} (v : ℕ) (w : List Symbol) (u : ℕ) → IsFirst g (Terminal v ∷ w) u ↔ (v ≡ u)
terminal_first {g} v w u = (
  λ f. there f,
  λ same. (
    w,
    subst (λ z. Derives g (Terminal v ∷ w) (Terminal z ∷ w)) same
        (Derives-same g (Terminal v ∷ w)),
  ),
)
  where
    first : {x y : List Symbol} → Derives g x y → (rest : List Symbol) → x ≡ Terminal v ∷ w → y ≡ Terminal u ∷ rest → v ≡ u
    first done rest e f = cc
    first (keep x r) rest e f = cc
    first (expand p a right l m rule r q is) rest e f = cc

    there : IsFirst g (Terminal v ∷ w) u → v ≡ u
    there (z, r) = first r z refl refl

-- nothing begins no symbols
pub nothing_first : {g : GrammarView} (u : ℕ) → IsFirst g [] u → ⊥
nothing_first u (v, r) = go r refl
  where
    go : {g : GrammarView} {u : ℕ} {v x : List Symbol} → Derives g [] x → x ≡ Terminal u ∷ v → ⊥
    go done e = cc

-- where a nonterminal derives the empty text, what begins the symbols begins it or those after it
pub first_on : {g : GrammarView} (b : ℕ) (w : List Symbol) (u : ℕ) → Derives g (Nonterminal b ∷ []) [] →
    (IsFirst g (Nonterminal b ∷ []) u → ⊥) → IsFirst g (Nonterminal b ∷ w) u ↔ IsFirst g w u
first_on b w u nullable not = (
  λ f. elim (First-cons (Nonterminal b) w u f) [ inl here ↦ absurd (not here) | inr (_, later) ↦ later ],
  λ later. First-of_tail (Nonterminal b) w u nullable later,
)

-- and where it doesn't, what begins it alone
pub first_stop : {g : GrammarView} (b : ℕ) (w : List Symbol) (u : ℕ) → (Derives g (Nonterminal b ∷ []) [] → ⊥) →
    IsFirst g (Nonterminal b ∷ w) u → IsFirst g (Nonterminal b ∷ []) u
first_stop b w u not f = elim (First-cons (Nonterminal b) w u f) [ inl here ↦ here | inr (r, _) ↦ absurd (not r) ]

-- what begins symbols with a terminal after them begins these, or is the terminal where they derive the empty text
pub first_then : {g : GrammarView} (rest : List Symbol) (t u : ℕ) →
    IsFirst g (rest ++ Terminal t ∷ []) u ↔ (IsFirst g rest u ⊎ (Derives g rest [] × (t ≡ u)))
first_then {g} rest t u = (
  λ f. elim ((First-append g rest (Terminal t ∷ []) u).0 f) [
    | inl here ↦ inl here
    | inr (empty, last) ↦ inr (empty, (terminal_first t [] u).0 last)
  ],
  λ p. elim p [
    | inl here ↦ (First-append g rest (Terminal t ∷ []) u).1 (inl here)
    | inr (empty, same) ↦ (First-append g rest (Terminal t ∷ []) u).1 (inr (empty, (terminal_first t [] u).1 same))
  ],
)

-- symbols derive the empty text where the first and the others do
pub empty_on : {g : GrammarView} (b : ℕ) (w : List Symbol) → Derives g (Nonterminal b ∷ []) [] →
    Derives g (Nonterminal b ∷ w) [] ↔ Derives g w []
empty_on b w first = (λ r. (Nullable-parts (Nonterminal b) w r).tail, λ r. Derives-append first r)

pub empty_stop : {g : GrammarView} (x : Symbol) (w : List Symbol) → (Derives g (x ∷ []) [] → ⊥) → Derives g (x ∷ w) [] → ⊥
empty_stop x w not r = not (Nullable-parts x w r).head

pub empty_terminal : {g : GrammarView} (t : ℕ) (w : List Symbol) → Derives g (Terminal t ∷ w) [] → ⊥
empty_terminal t w r = Terminal-not_nullable r
