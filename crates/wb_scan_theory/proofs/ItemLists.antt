-- All items of a grammar, in order.
use Rattle.std.proofs.Common.{◌≡◌, ◌<◌, ◌≤◌, ◌+◌, ◌⊎◌, ◌++◌, inl, inr, ℕ, zero, suc, List, [], ◌∷◌, length, refl, sym, ◌∙◌, subst, ap}
use Rattle.std.proofs.Common.{arith}
use Rattle.std.proofs.Common.{Contains}
use Rattle.std.proofs.lemmas.List.{length-drop}
use Rattle.wb_base.specs.declared.symbol.Symbol.{Symbol}
use Rattle.wb_base.specs.Grammar.{GrammarView}
use Rattle.wb_grammar_theory.specs.declared.item.Item.{Item}
use Rattle.wb_grammar_theory.specs.Productions.{right_of, top_of}
use Rattle.wb_grammar_theory.specs.Items.{after_dot, IsValidItem, start, close, move, HasItem}
use Rattle.wb_grammar_theory.proofs.ShiftLemmas.{valid_production}
use Rattle.wb_items.specs.Kernels.{Precedes}
use Rattle.wb_lemmas.proofs.Members.{contains_cases, contains_first, contains_later, nothing_in, contains_append, append_contains_left}
use Rattle.wb_lemmas.proofs.Members.{append_contains_right}
use Rattle.wb_lemmas.proofs.Sublists.{Rising, nil, cons}

abbrev pub item_at : ℕ → ℕ → Item
item_at p d = record { production = p; dot = d }

order : (a b : ℕ) → a ≤ b → (a ≡ b) ⊎ (suc a ≤ b)
order zero zero h = inl refl
order zero (suc b) h = inr (omega arith)
order (suc a) zero h = absurd (omega (arith, h))
order (suc a) (suc b) h = elim (order a b (omega (arith, h))) [ inl same ↦ inl (ap suc same) | inr more ↦ inr (omega (arith, more)) ]

-- so many items of the production, from this dot on
dots : ℕ → ℕ → ℕ → List Item
dots p d zero = []
dots p d (suc n) = item_at p d ∷ dots p (suc d) n

-- the items of so many productions, from this one on
items_of : (ℕ → ℕ) → ℕ → ℕ → List Item
items_of wide p zero = []
items_of wide p (suc n) = dots p 0 (wide p) ++ items_of wide (suc p) n

same_item : (p d : ℕ) (item : Item) → item.production ≡ p → item.dot ≡ d → item_at p d ≡ item
same_item p d item e f = ap (λ z. item_at z d) (sym e) ∙ ap (λ z. item_at item.production z) (sym f)

dots_has : (p d n : ℕ) (item : Item) → item.production ≡ p → d ≤ item.dot → item.dot < d + n → Contains (dots p d n) item
unfolding dots
dots_has p d zero item e le lt = absurd (omega (arith, le, lt))
dots_has p d (suc n) item e le lt = by_dot (λ more. dots_has p (suc d) n item e more (omega (arith, lt))) (order d item.dot le) where
  by_dot : (suc d ≤ item.dot → Contains (dots p (suc d) n) item) → (d ≡ item.dot) ⊎ (suc d ≤ item.dot) → Contains (item_at p d ∷ dots p (suc d) n) item
  by_dot f (inl same) = subst (Contains (item_at p d ∷ dots p (suc d) n)) (same_item p d item e (sym same)) (contains_first (item_at p d) (dots p (suc d) n))
  by_dot f (inr more) = contains_later (item_at p d) item (dots p (suc d) n) (f more)

dots_only : (p d n : ℕ) (item : Item) → Contains (dots p d n) item → (item.production ≡ p) × (d ≤ item.dot)
unfolding dots
dots_only p d zero item has = absurd (nothing_in item has)
dots_only p d (suc n) item has = elim (contains_cases (item_at p d) item (dots p (suc d) n) has) [
  | inl e ↦ (sym (ap (λ (z : Item). z.production) e), let f : d ≡ item.dot = ap (λ (z : Item). z.dot) e in omega (arith, f))
  | inr later ↦ let h = dots_only p (suc d) n item later in (h.0, let le = h.1 in omega (arith, le))
]

items_has : (wide : ℕ → ℕ) (p n : ℕ) (item : Item) → p ≤ item.production → item.production < p + n → item.dot < wide item.production
    → Contains (items_of wide p n) item
unfolding items_of
items_has wide p zero item le lt within = absurd (omega (arith, le, lt))
items_has wide p (suc n) item le lt within =
    by_production (λ more. items_has wide (suc p) n item more (omega (arith, lt)) within) (order p item.production le) where
      by_production : (suc p ≤ item.production → Contains (items_of wide (suc p) n) item) → (p ≡ item.production) ⊎ (suc p ≤ item.production) → Contains (dots p 0 (wide p) ++ items_of wide (suc p) n) item
      by_production f (inl same) =
          append_contains_left (dots p 0 (wide p)) (items_of wide (suc p) n) item
          (dots_has p 0 (wide p) item (sym same) (omega arith)
          (let h : item.dot < wide p = subst (λ z. item.dot < wide z) (sym same) within in omega (arith, h)))
      by_production f (inr more) =
          append_contains_right (dots p 0 (wide p)) (items_of wide (suc p) n) item (f more)

items_only : (wide : ℕ → ℕ) (p n : ℕ) (item : Item) → Contains (items_of wide p n) item → p ≤ item.production
unfolding items_of
items_only wide p zero item has = absurd (nothing_in item has)
items_only wide p (suc n) item has = elim (contains_append (dots p 0 (wide p)) (items_of wide (suc p) n) item has) [
  | inl here ↦ let h = (dots_only p 0 (wide p) item here).0 in omega (arith, h)
  | inr later ↦ let h = items_only wide (suc p) n item later in omega (arith, h)
]

rising_join : (xs ys : List Item) → Rising Precedes xs → Rising Precedes ys → ((x y : Item) → Contains xs x → Contains ys y → Precedes x y)
    → Rising Precedes (xs ++ ys)
rising_join [] ys nil s f = s
rising_join (x ∷ xs) ys (cons _ _ before r) s f =
    cons x (xs ++ ys) (λ y has. elim (contains_append xs ys y has) [
      | inl left ↦ before y left
      | inr right ↦ f x y (contains_first x xs) right
    ]) (rising_join xs ys r s (λ z y a b. f z y (contains_later x z xs a) b))

dots_rise : (p d n : ℕ) → Rising Precedes (dots p d n)
unfolding dots
dots_rise p d zero = nil
dots_rise p d (suc n) = cons (item_at p d) (dots p (suc d) n) (λ y has. let h = dots_only p (suc d) n y has in
    inr (sym h.0, let le = h.1 in omega (arith, le))) (dots_rise p (suc d) n)

items_rise : (wide : ℕ → ℕ) (p n : ℕ) → Rising Precedes (items_of wide p n)
unfolding items_of
items_rise wide p zero = nil
items_rise wide p (suc n) = rising_join (dots p 0 (wide p)) (items_of wide (suc p) n) (dots_rise p 0 (wide p)) (items_rise wide (suc p) n)
    (λ x y a b. let h = (dots_only p 0 (wide p) x a).0 in let k = items_only wide (suc p) n y b in inl (omega (arith, h, k)))

pub all_items : GrammarView → List Item
all_items g = items_of (λ p. length (right_of g p) + 1) 0 (suc (top_of g))

pub all_rise : (g : GrammarView) → Rising Precedes (all_items g)
unfolding all_items
all_rise g = items_rise (λ p. length (right_of g p) + 1) 0 (suc (top_of g))

valid_dot : {g : GrammarView} {prefix : List Symbol} {item : Item} {t : ℕ} → IsValidItem g prefix item t
    → item.dot ≤ length (right_of g item.production)
valid_dot start = omega arith
valid_dot (close item t b rest q u right v is rule first) = omega arith
valid_dot {g} (move item x rest prefix v is longer_is moved_is) =
    let l = length-drop item.dot (right_of g item.production) in
    let m : length (after_dot g item) ≡ suc (length rest) = ap length is in
    subst (λ (z : Item). z.dot ≤ length (right_of g z.production)) (sym moved_is) (omega (arith, l, m))

-- an item of any prefix is one of them
pub item_listed : (g : GrammarView) (prefix : List Symbol) (item : Item) → HasItem g prefix item → Contains (all_items g) item
unfolding all_items
item_listed g prefix item (t, v) =
    items_has (λ p. length (right_of g p) + 1) 0 (suc (top_of g)) item (omega arith)
    (let h = valid_production v in omega (arith, h)) (let h = valid_dot v in omega (arith, h))
