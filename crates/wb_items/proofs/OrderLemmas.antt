-- Items in order.
use Rattle.std.proofs.Common.{◌≡◌, ℕ, ◌+◌, ◌-◌, ◌<◌, ◌≤◌, ◌⊎◌, true, false, List, [], ◌∷◌, ◌++◌, length, Some, refl, sym, ◌∙◌, ap, subst}
use Rattle.std.proofs.Common.{inl, inr, arith}
use Rattle.std.specs.Prelude.{slice_get, slice_index_or, Contains, ◌↔◌}
use Rattle.std.proofs.lemmas.Option.{slice_get_within, slice_get-get_or}
use Rattle.std.proofs.lemmas.Bool.{cases_eq, cases_lt, true≢false}
use Rattle.std.specs.Ordering.{is_lt, ordering_then, nat_cmp}
use Rattle.std.specs.declared.cmp.Ordering.TheVariants.{Less, Equal}
use Rattle.std.specs.Cmp.{nat_cmp_is}
use Rattle.wb_lemmas.proofs.Places.{default_at, at_push, at_once}
use Rattle.wb_lemmas.proofs.Members.{contains_at, place_of, contains_push, push_contains, push_contains_last}
use Rattle.wb_grammar_theory.specs.declared.item.Item.{Item}
use Rattle.wb_items.specs.Kernels.{Precedes, AreInOrder}
use Rattle.wb_items.specs.Sorted.{AreRising, StrictUpTo}

-- items of one production and one place of the dot are one
pub same_item : (a b : Item) → a.production ≡ b.production → a.dot ≡ b.dot → a ≡ b
same_item a b p q i = record { production = p i; dot = q i }

-- of two items the one precedes the other, or they are the same
pub data Compared (a b : Item) : Type 0 where
  ahead : Precedes a b → Compared a b
  alike : a ≡ b → Compared a b
  follows : Precedes b a → Compared a b

pub compared : (a b : Item) → Compared a b
compared a b = elim (cases_eq a.production b.production) [
  | inl p ↦ elim (cases_eq a.dot b.dot) [
    | inl d ↦ alike (same_item a b p d)
    | inr ne ↦ elim (cases_lt a.dot b.dot) [ inl lt ↦ ahead (inr (p, lt)) | inr ge ↦ follows (inr (sym p, omega arith)) ]
  ]
  | inr ne ↦ elim (cases_lt a.production b.production) [ inl lt ↦ ahead (inl lt) | inr ge ↦ follows (inl (omega arith)) ]
]

pub precedes_then : (a b c : Item) → Precedes a b → Precedes b c → Precedes a c
precedes_then a b c (inl p) (inl q) = inl (omega arith)
precedes_then a b c (inl p) (inr q) = inl (omega (arith, q.0))
precedes_then a b c (inr p) (inl q) = inl (omega (arith, p.0))
precedes_then a b c (inr p) (inr q) = inr (p.0 ∙ q.0, omega (arith, p.1, q.1))

pub not_itself : (a : Item) → Precedes a a → ⊥
not_itself a (inl p) = omega arith
not_itself a (inr p) = omega (arith, p.1)

pub order_nil : AreInOrder []
order_nil i j a b lt p q = cc

-- an item that all others precede goes after them
pub order_push : (items : List Item) (item : Item) → AreInOrder items → ((z : Item) → Contains items z → Precedes z item) →
    AreInOrder (items ++ item ∷ [])
order_push items item h all i j a b lt one two = elim (at_push items item a i one) [
  | inl old ↦ elim (at_push items item b j two) [
    | inl old' ↦ h i j a b lt old old'
    | inr last ↦ subst (Precedes a) last.1 (all a (contains_at items a i old))
  ]
  | inr last ↦ elim (at_push items item b j two) [
    | inl old' ↦ absurd (omega (arith, last.0, slice_get_within items j b old'))
    | inr last' ↦ absurd (omega (arith, last.0, last'.0))
  ]
]

pub strict_start : (items : List Item) → StrictUpTo items [] 0
strict_start items = record {
  sound = λ z k. absurd (omega (arith, k.1));
  complete = λ j z lt at. absurd (omega arith);
  sorted = order_nil;
  last = λ m a z e at k. absurd (omega arith);
}

-- an item that is the same as the one before
pub strict_pass : (items list : List Item) (m : ℕ) (a b : Item) → slice_get items m ≡ Some a → slice_get items (m + 1) ≡ Some b → b ≡ a →
    StrictUpTo items list (m + 1) → StrictUpTo items list (m + 1 + 1)
strict_pass items list m a b at here is h = record {
  sound = λ z k. (let (j, lt, at') = h.sound z k in (j, omega (arith, lt), at'));
  complete = λ j z lt at'. elim (cases_eq j (m + 1)) [
    | inl same ↦ (let e : z ≡ b = at_once items (m + 1) z b (subst (λ k. slice_get items k ≡ Some z) same at') here in subst (Contains list)
        (sym (e ∙ is)) (h.complete m a (omega arith) at))
    | inr ne ↦ h.complete j z (omega arith) at'
  ];
  sorted = h.sorted;
  last = λ k c z e at' there.
      let n : k ≡ m + 1 = omega arith in
      let f : c ≡ a = at_once items (m + 1) c b (subst (λ k. slice_get items k ≡ Some c) n at') here ∙ is in
      subst (λ y. Precedes z y ⊎ (z ≡ y)) (sym f) (h.last m a z refl at there);
}

-- an item that all others precede
pub strict_take : (items list : List Item) (n : ℕ) (b : Item) → slice_get items n ≡ Some b → ((z : Item) → Contains list z → Precedes z b) →
    StrictUpTo items list n → StrictUpTo items (list ++ b ∷ []) (n + 1)
strict_take items list n b here all h = record {
  sound = λ z k. elim (contains_push list b z k) [
    | inl old ↦ (let (j, lt, at) = h.sound z old in (j, omega (arith, lt), at))
    | inr is ↦ (n, omega arith, here ∙ ap Some is)
  ];
  complete = λ j z lt at. elim (cases_eq j n) [
    | inl same ↦ subst (Contains (list ++ b ∷ [])) (at_once items n b z here (subst (λ k. slice_get items k ≡ Some z) same at))
        (push_contains_last list b)
    | inr ne ↦ push_contains list b z (h.complete j z (omega arith) at)
  ];
  sorted = order_push list b h.sorted all;
  last = λ m a z e at k.
      let n' : m ≡ n = omega arith in
      let f : b ≡ a = at_once items n b a here (subst (λ k. slice_get items k ≡ Some a) n' at) in
      elim (contains_push list b z k) [
        | inl old ↦ inl (subst (Precedes z) f (all z old))
        | inr is ↦ inr (sym is ∙ f)
      ];
}

-- it is preceded by all where it differs from the one before, which doesn't follow it
pub all_precede : (items list : List Item) (m : ℕ) (a b : Item) → AreRising items → slice_get items m ≡ Some a →
    slice_get items (m + 1) ≡ Some b → (b ≡ a → ⊥) → StrictUpTo items list (m + 1) → (z : Item) → Contains list z → Precedes z b
all_precede items list m a b rising at here ne h z k =
    let first : Precedes a b =
    (elim (compared a b) [ ahead lt ↦ lt | alike is ↦ absurd (ne (sym is)) | follows gt ↦ absurd (rising m a b at here gt) ]) in
    elim (h.last m a z refl at k) [
      | inl lt ↦ precedes_then z a b lt first
      | inr is ↦ subst (λ y. Precedes y b) (sym is) first
    ]

-- the same by the place of the item
pub strict_pass_at : (items list : List Item) (place : ℕ) (a b : Item) → 0 < place → slice_get items (place - 1) ≡ Some a →
    slice_get items place ≡ Some b → a ≡ b → StrictUpTo items list place → StrictUpTo items list (place + 1)
strict_pass_at items list place a b pos at here is h =
    let m = place - 1 in
    let e : place ≡ m + 1 = omega arith in
    subst (λ n. StrictUpTo items list (n + 1)) (sym e) (strict_pass items list m a b at (subst (λ n. slice_get items n ≡ Some b) e here)
    (sym is) (subst (StrictUpTo items list) e h))

pub strict_take_at : (items list more : List Item) (place : ℕ) (b : Item) → AreRising items → slice_get items place ≡ Some b →
    more ≡ list ++ b ∷ [] → (0 < place → (a : Item) → slice_get items (place - 1) ≡ Some a → a ≡ b → ⊥) → StrictUpTo items list place →
    StrictUpTo items more (place + 1)
strict_take_at items list more place b rising here is ne h =
    subst (λ l. StrictUpTo items l (place + 1)) (sym is) (strict_take items list place b here all h)
  where
    all : (z : Item) → Contains list z → Precedes z b
    all z k =
        let (j, lt, at) = h.sound z k in
        let m = place - 1 in
        let e : place ≡ m + 1 = omega (arith, lt) in
        let within : m < length items = (let w = slice_get_within items place b here in omega (arith, w, lt)) in
        let there = slice_get-get_or items m b within in
        all_precede items list m (slice_index_or items m b) b rising there (subst (λ n. slice_get items n ≡ Some b) e here)
        (λ alike'. ne (omega (arith, lt)) (slice_index_or items m b) there (sym alike')) (subst (StrictUpTo items list) e h) z k

pub strict_done : (items list : List Item) (n : ℕ) → length items ≤ n → StrictUpTo items list n → (item : Item) →
    Contains list item ↔ Contains items item
strict_done items list n past h item = (
  λ k. (let (j, lt, at) = h.sound item k in contains_at items item j at),
  λ k. (let (j, at) = place_of items item k in h.complete j item (let w = slice_get_within items j item at in omega (arith, w, past)) at),
)

pub less_by : (b a : Item) → Precedes b a → is_lt (ordering_then (nat_cmp b.production a.production) (nat_cmp b.dot a.dot)) ≡ true
less_by b a (inl p) = ap (λ o. is_lt (ordering_then o (nat_cmp b.dot a.dot))) (sym (nat_cmp_is b.production a.production Less p))
less_by b a (inr p) = ap (λ o. is_lt (ordering_then o (nat_cmp b.dot a.dot))) (sym (nat_cmp_is b.production a.production Equal p.0)) ∙
    ap is_lt (sym (nat_cmp_is b.dot a.dot Less p.1))

-- a sorted list rises
pub sorted_rises : (items : List Item) →
    ((k : ℕ) (d : Item) → 0 ≤ k → k + 1 < length items →
    is_lt (ordering_then (nat_cmp (slice_index_or items (k + 1) d).production (slice_index_or items k d).production)
    (nat_cmp (slice_index_or items (k + 1) d).dot (slice_index_or items k d).dot)) ≡ false) → AreRising items
sorted_rises items sorted k a b at at' less =
    let here : slice_index_or items k a ≡ a = default_at items k a a at in
    let there : slice_index_or items (k + 1) a ≡ b = default_at items (k + 1) a b at' in
    true≢false (sym (less_by (slice_index_or items (k + 1) a) (slice_index_or items k a)
    (subst (λ z. Precedes z (slice_index_or items k a)) (sym there) (subst (Precedes b) (sym here) less))) ∙
    sorted k a (omega arith) (slice_get_within items (k + 1) b at'))
