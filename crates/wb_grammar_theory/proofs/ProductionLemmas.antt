-- Productions as they are read from a grammar.
use Rattle.std.proofs.Common.{◌≡◌, ℕ, ◌<◌, List, Some, length, refl, sym, ◌∙◌, ap, subst, inl, inr, arith}
use Rattle.std.specs.Prelude.{slice_get, IfSome, Option, None}
use Rattle.std.proofs.lemmas.Option.{slice_get_cases, slice_get_within, get_or_from_slice_get}
use Rattle.std.proofs.lemmas.List.Elements.{All-get_or}
use Rattle.wb_base.specs.declared.symbol.Symbol.{Symbol}
use Rattle.wb_base.specs.Grammar.{GrammarView, Production, IsProductionBelow, IsGrammar}
use Rattle.wb_grammar_theory.specs.Productions.{IsProduction}

none_within : (rs : List Production) (p : ℕ) → p < length rs → slice_get rs p ≡ None → ⊥
none_within rs p h e = elim (slice_get_cases rs p).1 [
  | inl found ↦ (let (r, lt, is, at) = found in let bad : None ≡ Some r = sym e ∙ is in cc)
  | inr past ↦ omega (arith, past.0)
]

-- the production whose left and right side were read
pub production_read : (g : GrammarView) (p left : ℕ) (right : List Symbol) → p < length g.productions →
    IfSome (slice_get g.productions p) (λ r. left ≡ r.0) → IfSome (slice_get g.productions p) (λ r. right ≡ r.1) →
    IsProduction g p left right
production_read g p left right h e f = go (slice_get g.productions p) refl e f
  where
    go : (o : Option Production) → slice_get g.productions p ≡ o → IfSome o (λ r. left ≡ r.0) → IfSome o (λ r. right ≡ r.1) →
        IsProduction g p left right
    go None is e f = absurd (none_within g.productions p h is)
    go (Some r) is e f = is ∙ (λ i. Some (sym e i, sym f i))

same_rule : (r s : Production) → Some r ≡ Some s → r ≡ s
same_rule r s e = cc

-- a number has one production
pub production_once : (g : GrammarView) (p a b : ℕ) (right other : List Symbol) → IsProduction g p a right → IsProduction g p b other →
    (a ≡ b) × (right ≡ other)
production_once g p a b right other one two =
    let same = same_rule (a, right) (b, other) (sym one ∙ two) in
    (ap (λ (r : Production). r.0) same, ap (λ (r : Production). r.1) same)

-- a production's number is one of so many
pub production_within : (g : GrammarView) (p a : ℕ) (right : List Symbol) → IsProduction g p a right → p < length g.productions
production_within g p a right rule = slice_get_within g.productions p (a, right) rule

-- its numbers are in range
pub production_below : (g : GrammarView) (p a : ℕ) (right : List Symbol) → IsGrammar g → IsProduction g p a right →
    IsProductionBelow g.terminals g.nonterminals (a, right)
production_below g p a right ok rule =
    subst (IsProductionBelow g.terminals g.nonterminals) (get_or_from_slice_get g.productions p (a, right) (a, right) rule)
    (All-get_or (IsProductionBelow g.terminals g.nonterminals) g.productions p (a, right)
    (production_within g p a right rule) ok.productions_below)
