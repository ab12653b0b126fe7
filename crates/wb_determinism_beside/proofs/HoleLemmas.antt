-- A hole is in one production alone.
use Rattle.std.proofs.Common.{◌≡◌, ◌<◌, ◌≤◌, ◌+◌, ◌∷◌, ◌∙◌, [], ℕ, zero, suc, List, Some, length, drop, refl, sym, ap, subst, arith}
use Rattle.std.specs.Prelude.{slice_get}
use Rattle.wb_lemmas.proofs.Elements.{all_at}
use Rattle.wb_base.specs.declared.symbol.Symbol.{Symbol}
use Rattle.wb_base.specs.declared.symbol.Symbol.TheVariants.{Terminal}
use Rattle.wb_base.specs.Grammar.{GrammarView, IsGrammar, IsProductionBelow, IsSymbolBelow, Production}
use Rattle.wb_grammar_theory.specs.declared.item.Item.{Item}
use Rattle.wb_grammar_theory.specs.Items.{after_dot}
use Rattle.wb_grammar_theory.specs.Productions.{right_in}
use Rattle.wb_marking_holes.specs.Holes.{with_holes_of}
use Rattle.wb_compose_theory_grammar.proofs.RangeLemmas as range
use Rattle.wb_compose_theory_grammar.proofs.RangeLemmas.{WithHoles, with_holes_view}

-- what is after the dot before a terminal is of a production
after_production : (rules : List Production) (start p n t : ℕ) (rest : List Symbol) → drop n (right_in rules start p) ≡ Terminal t ∷ rest
    → (rule : Production) × (slice_get rules p ≡ Some rule) × (drop n rule.1 ≡ Terminal t ∷ rest)
after_production [] start zero zero t rest e = absurd (cc e)
after_production [] start zero (suc zero) t rest e = absurd (cc e)
after_production [] start zero (suc (suc n)) t rest e = absurd (cc e)
after_production [] start (suc p) zero t rest e = absurd (cc e)
after_production [] start (suc p) (suc n) t rest e = absurd (cc e)
after_production (rule ∷ rules) start zero n t rest e = (rule, refl, e)
after_production (rule ∷ rules) start (suc p) n t rest e = after_production rules start p n t rest e

-- the first of what is after the dot is at the dot
drop_first : {X : Type 0} (xs : List X) (n : ℕ) (x : X) (rest : List X) → drop n xs ≡ x ∷ rest → slice_get xs n ≡ Some x
drop_first [] zero x rest e = absurd (cc e)
drop_first [] (suc n) x rest e = absurd (cc e)
drop_first (y ∷ xs) zero x rest e = let same : y ≡ x = cc in ap (λ z. Some z) same
drop_first (y ∷ xs) (suc n) x rest e = drop_first xs n x rest e

-- of one symbol the dot is before it
one_symbol : (s t n : ℕ) (rest : List Symbol) → drop n (Terminal s ∷ []) ≡ Terminal t ∷ rest → (n ≡ 0) × (s ≡ t)
one_symbol s t zero rest e = let same : s ≡ t = cc in (refl, same)
one_symbol s t (suc zero) rest e = absurd (cc e)
one_symbol s t (suc (suc n)) rest e = absurd (cc e)

module _ (g : GrammarView) (extensible : List ℕ) (below : IsGrammar g) where
  -- an item with its dot before a hole is the initial one of the hole's production
  pub hole_item : (h : ℕ) (i : Item) (rest : List Symbol) → g.terminals ≤ h
      → after_dot (with_holes_of g extensible) i ≡ Terminal h ∷ rest
      → (i.dot ≡ 0) × (i.production + g.terminals ≡ length g.productions + h)
  hole_item h i rest far e =
      let (rule, at, after) = after_production (with_holes_of g extensible).productions g.start i.production i.dot h rest e in
      by rule at after (with_holes_view g extensible i.production rule.0 rule.1 at)
    where
      by : (rule : Production) → slice_get (with_holes_of g extensible).productions i.production ≡ Some rule
          → drop i.dot rule.1 ≡ Terminal h ∷ rest → WithHoles g extensible i.production rule.0 rule.1
          → (i.dot ≡ 0) × (i.production + g.terminals ≡ length g.productions + h)
      by rule at after (range.without own) =
          let all = (all_at (IsProductionBelow g.terminals g.nonterminals) g.productions i.production (rule.0, rule.1)
          below.productions_below own).right in
          let less : h < g.terminals = all_at (IsSymbolBelow g.terminals g.nonterminals) rule.1 i.dot (Terminal h) all
          (drop_first rule.1 i.dot (Terminal h) rest after) in
          absurd (omega (arith, less, far))
      by rule at after (range.of_hole j b_at is right_is) =
          let (dot, same) = one_symbol (g.terminals + j) h i.dot rest
          (subst (λ (z : List Symbol). drop i.dot z ≡ Terminal h ∷ rest) right_is after) in
          (dot, omega (arith, is, same))

  -- so there is one such item
  pub hole_once : (h : ℕ) (i j : Item) (rest others : List Symbol) → g.terminals ≤ h
      → after_dot (with_holes_of g extensible) i ≡ Terminal h ∷ rest → after_dot (with_holes_of g extensible) j ≡ Terminal h ∷ others
      → i ≡ j
  hole_once h i j rest others far one other =
      let a = hole_item h i rest far one in
      let b = hole_item h j others far other in
      let dot : i.dot ≡ j.dot = a.0 ∙ sym b.0 in
      let production : i.production ≡ j.production = (let x = a.1 in let y = b.1 in omega (arith, x, y)) in
      (λ z. record { production = production z; dot = dot z })
