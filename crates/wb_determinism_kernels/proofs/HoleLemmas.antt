-- Items before a hole, and items after a marker.
use Rattle.std.proofs.Common.{◌≡◌, ◌+◌, ◌<◌, ◌≤◌, ◌∙◌, ◌∷◌, ◌++◌, [], List, ℕ, Some, length, refl, sym, ap, subst, inl, inr, arith}
use Rattle.std.specs.Prelude.{Contains, IfSome, slice_get}
use Rattle.std.proofs.lemmas.Bool.{cases_eq}
use Rattle.wb_lemmas.proofs.Members.{contains_push, nothing_in, push_contains, push_contains_last}
use Rattle.wb_lemmas.proofs.Places.{at_within}
use Rattle.wb_base.specs.declared.symbol.Symbol.{Symbol}
use Rattle.wb_base.specs.declared.symbol.Symbol.TheVariants.{Terminal}
use Rattle.wb_base.specs.Grammar.{GrammarView}
use Rattle.wb_grammar_theory.specs.declared.item.Item.{Item}
use Rattle.wb_grammar_theory.specs.Items.{HasItem, advance, after_dot, initial_item}
use Rattle.wb_grammar_theory.specs.Productions.{IsProduction}
use Rattle.wb_grammar_theory.proofs.DotLemmas.{after_initial}
use Rattle.wb_grammar_theory.proofs.ProductionLemmas.{production_once}
use Rattle.wb_items.specs.Kernels.{HasNoneBefore, KernelsView, ListsItems, count_of, prefix_of}
use Rattle.wb_items.proofs.OrderLemmas.{order_push}
use Rattle.wb_determinism_kernels.specs.NewKernels.{BeginsWith}
use Rattle.wb_determinism_kernels.specs.Inner.Holes.{AfterUpTo, IsBefore}

-- the production of a number by its right side
pub rule_at : (k : GrammarView) (n : ℕ) (right : List Symbol) → n < length k.productions →
    IfSome (slice_get k.productions n) (λ p. right ≡ p.1) → (a : ℕ) × IsProduction k n a right
rule_at k n right lt is =
    let (p, at) = at_within k.productions n lt in
    let e : right ≡ p.1 = subst (λ o. IfSome o (λ z. right ≡ z.1)) at is in
    (p.0, at ∙ (λ j. Some (p.0, sym e j)))

pub after_none : (k : GrammarView) (marker : ℕ) → AfterUpTo k marker [] 0
after_none k marker = record {
  sound = λ item has. absurd (nothing_in item has);
  complete = λ q a rest lt rule. absurd (omega (arith, lt));
  in_order = λ i j a b lt p q. cc;
}

-- the item of a production with its dot after the first symbol
abbrev pub item_after : ℕ → Item
item_after n = record { production = n; dot = 1 }

module _ (k : GrammarView) (marker n : ℕ) (right : List Symbol) (lt : n < length k.productions)
    (is : IfSome (slice_get k.productions n) (λ p. right ≡ p.1)) (items : List Item) (h : AfterUpTo k marker items n) where
  -- a production that the marker doesn't begin
  pub after_pass : ((rest : List Symbol) → right ≡ Terminal marker ∷ rest → ⊥) → AfterUpTo k marker items (n + 1)
  after_pass not = record {
    sound = λ item has. (let (q, a, rest, below, rule, e) = h.sound item has in (q, a, rest, omega (arith, below), rule, e));
    complete = λ q a rest below rule. elim (cases_eq q n) [
      | inl same ↦
          let (b, here) = rule_at k n right lt is in
          absurd (not rest (production_once k n b a right (Terminal marker ∷ rest) here (subst (λ z. IsProduction k z a (Terminal marker
          ∷ rest)) same
          rule)).1)
      | inr other ↦ h.complete q a rest (omega (arith, below, other)) rule
    ];
    in_order = h.in_order;
  }

  -- one that it begins
  pub after_take : (rest : List Symbol) → right ≡ Terminal marker ∷ rest → (more : List Item) →
      more ≡ items ++ record { production = n; dot = 1 } ∷ [] → AfterUpTo k marker more (n + 1)
  after_take rest e more added = subst (λ z. AfterUpTo k marker z (n + 1)) (sym added) (record {
    sound = λ item has. elim (contains_push items (item_after n) item has) [
      | inl old ↦ (let (q, a, rest', below, rule, e') = h.sound item old in (q, a, rest', omega (arith, below), rule, e'))
      | inr same ↦
          let (b, here) = rule_at k n right lt is in
          (n, b, rest, omega arith, subst (IsProduction k n b) e here, sym same)
    ];
    complete = λ q a rest' below rule. elim (cases_eq q n) [
      | inl same ↦ subst (λ z. Contains (items ++ item_after n ∷ []) (advance (initial_item z))) (sym same) (push_contains_last items
          (item_after n))
      | inr other ↦ push_contains items (item_after n) (advance (initial_item q)) (h.complete q a rest' (omega (arith, below, other)) rule)
    ];
    in_order = order_push items (item_after n) h.in_order (λ z has.
        let (q, a, rest', below, rule, e') = h.sound z has in
        let production : z.production ≡ q = ap (λ (i : Item). i.production) e' in
        inl (omega (arith, production, below)));
  })

-- an item by its parts
pub initial_is : (item : Item) → item.dot ≤ 0 → item ≡ initial_item item.production
initial_is item le = let zero : item.dot ≡ 0 = omega (arith, le) in (λ j. record { production = item.production; dot = zero j })

-- an item of a closure that the hole begins
pub is_before : (host : KernelsView) (s hole : ℕ) (items : List Item) (item : Item) → s < count_of host →
    ListsItems host.grammar (prefix_of host s) items → Contains items item → BeginsWith host.grammar hole item →
    IsBefore host hole (record { state = s; production = item.production })
is_before host s hole items item lt lists has (b, right, rule, is) = record {
  below = lt;
  has = subst (HasItem host.grammar (prefix_of host s)) is ((lists item).0 has);
  begins = (b, right, rule, refl);
}

-- where no symbol leads over the hole, no item begins with it
pub none_before : (host : KernelsView) (s hole : ℕ) → HasNoneBefore host.grammar (prefix_of host s) (Terminal hole) → (item : Item) →
    HasItem host.grammar (prefix_of host s) item → ¬ BeginsWith host.grammar hole item
none_before host s hole none item has (b, right, rule, is) =
    none item right has (ap (after_dot host.grammar) is ∙ after_initial host.grammar item.production b (Terminal hole ∷ right) rule)
