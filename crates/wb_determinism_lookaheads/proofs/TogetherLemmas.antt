-- Items that have one set.
use Rattle.std.proofs.Common.{◌≡◌, ◌<◌, ◌≤◌, ◌∙◌, List, ℕ, Some, length, refl, sym, subst, inl, inr, arith}
use Rattle.std.specs.Prelude.{Contains, IfSome, slice_get}
use Rattle.wb_lemmas.proofs.Places.{at_within}
use Rattle.wb_base.specs.Grammar.{GrammarView}
use Rattle.wb_grammar_theory.specs.declared.item.Item.{Item}
use Rattle.wb_grammar_theory.specs.Items.{initial_item}
use Rattle.wb_grammar_theory.specs.Productions.{IsProduction}
use Rattle.wb_grammar_theory.proofs.ProductionLemmas.{production_once, production_within}
use Rattle.wb_items.specs.Apart.{BelongTogether}
use Rattle.wb_items.specs.Table.{AreProductions}
use Rattle.wb_lookahead.proofs.OpenedLemmas.{initial_is}
use Rattle.wb_determinism_lookaheads.specs.Inner.Spreading.{IsProductionOf}

-- an item with its dot past the left end belongs with itself alone
pub alone_moved : (g : GrammarView) (one item : Item) → BelongTogether g one item → (one.dot ≡ 0 → ⊥) → one ≡ item
alone_moved g one item (inl same) ne = same
alone_moved g one item (inr (b, (zero, right, rule), other)) ne = absurd (ne zero)

-- and so does one of no production
pub alone_past : (g : GrammarView) (one item : Item) → BelongTogether g one item → length g.productions ≤ one.production → one ≡ item
alone_past g one item (inl same) past = same
alone_past g one item (inr (b, (zero, right, rule), other)) past =
    absurd (let w = production_within g one.production b right rule in omega (arith, w, past))

-- the initial item of another production of the nonterminal
pub record IsOpenedBy (g : GrammarView) (b : ℕ) (item : Item) : Type 0 where
  pub q : ℕ
  pub is : item ≡ initial_item q
  pub of : IsProductionOf g b q

-- with an initial item belong those of the nonterminal
pub opened_with : (g : GrammarView) (b p : ℕ) → IsProductionOf g b p → (item : Item) → BelongTogether g (initial_item p) item →
    IsOpenedBy g b item
opened_with g b p of item (inl same) = record { q = p; is = sym same; of = of }
opened_with g b p of item (inr (a, (z, right, rule), (zero, more, other))) = record {
  q = item.production;
  is = initial_is item (omega (arith, zero));
  of = (more, subst (λ n. IsProduction g item.production n more) (sym (production_once g p b a of.0 right of.1 rule).0) other);
}

-- and all of them
pub together : (g : GrammarView) (b p q : ℕ) → IsProductionOf g b p → IsProductionOf g b q →
    BelongTogether g (initial_item p) (initial_item q)
together g b p q one other = inr (b, (refl, one.0, one.1), (refl, other.0, other.1))

-- the production of a number with its left side
pub rule_of : (g : GrammarView) (p left : ℕ) → p < length g.productions → IfSome (slice_get g.productions p) (λ r. left ≡ r.0) →
    IsProductionOf g left p
rule_of g p left lt is =
    let (r, at) = at_within g.productions p lt in
    let e : left ≡ r.0 = subst (λ o. IfSome o (λ z. left ≡ z.0)) at is in
    (r.1, at ∙ (λ j. Some (sym e j, r.1)))

module _ (g : GrammarView) (rules : List (List ℕ)) (are : AreProductions g rules) (one : Item) (left : ℕ) (numbers : List ℕ)
    (dot : one.dot ≤ 0) (lt : one.production < length g.productions)
    (is : IfSome (slice_get g.productions one.production) (λ r. left ≡ r.0)) (at : slice_get rules left ≡ Some numbers) where
  -- the initial items of these productions belong with the one
  pub rules_together : (q : ℕ) → Contains numbers q → BelongTogether g one (initial_item q)
  rules_together q has =
      let (right, rule) = rule_of g one.production left lt is in
      let (more, other) = (are.each left numbers at).sound q has in
      inr (left, (omega (arith, dot), right, rule), (refl, more, other))

  -- and no others
  pub rules_all : (item : Item) → BelongTogether g one item → (q : ℕ) × Contains numbers q × (item ≡ initial_item q)
  rules_all item (inl same) =
      let (right, rule) = rule_of g one.production left lt is in
      (one.production, (are.each left numbers at).complete one.production right rule, sym same ∙ initial_is one dot)
  rules_all item (inr (b, (z, w, one_rule), (zero, v, other))) =
      let (right, rule) = rule_of g one.production left lt is in
      let e : b ≡ left = (production_once g one.production b left w right one_rule rule).0 in (
        item.production,
        (are.each left numbers at).complete item.production v (subst (λ n. IsProduction g item.production n v) e other),
        initial_is item (omega (arith, zero)),
      )
