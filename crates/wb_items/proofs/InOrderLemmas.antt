-- Lists of items in order: how two of them are compared place by place.
use Rattle.std.proofs.Common.{◌≡◌, ℕ, ◌+◌, ◌<◌, ◌≤◌, zero, suc, List, length, Some, sym, ◌∙◌, ap, subst, inl, inr, arith}
use Rattle.std.specs.Prelude.{slice_get}
use Rattle.std.specs.Ordering.{ordering_then, nat_cmp}
use Rattle.std.specs.declared.cmp.Ordering.{Ordering}
use Rattle.std.proofs.lemmas.Bool.{cases_eq, cases_lt}
use Rattle.std.proofs.lemmas.Option.{slice_get_within}
use Rattle.wb_lemmas.proofs.Places.{at_once, at_within}
use Rattle.wb_lemmas.proofs.Members.{contains_at, place_of}
use Rattle.wb_grammar_theory.specs.declared.item.Item.{Item}
use Rattle.wb_items.specs.Kernels.{Precedes, AreInOrder}
use Rattle.wb_items.specs.Table.{SameItems}
use Rattle.wb_items.specs.Inner.Searches.{AgreeBelow}
use Rattle.wb_items.specs.KernelOrder.{ComesFirst}
use Rattle.wb_items.proofs.OrderLemmas.{precedes_then, not_itself}

-- the derived order of items
abbrev pub item_cmp : Item → Item → Ordering
item_cmp a b = ordering_then (nat_cmp a.production b.production) (nat_cmp a.dot b.dot)

-- lists that agree at the first places agree at one more
pub agree_more : (one other : List Item) (n : ℕ) (a b : Item) → slice_get one n ≡ Some a → slice_get other n ≡ Some b → a ≡ b →
    AgreeBelow one other n →
    AgreeBelow one other (n + 1)
agree_more one other n a b at at' is h k lt = elim (cases_eq k n) [
  | inl same ↦ subst (λ i. slice_get one i ≡ slice_get other i) (sym same) (at ∙ ap Some is ∙ sym at')
  | inr ne ↦ h k (omega arith)
]

pub agree_turned : (one other : List Item) (n : ℕ) → AgreeBelow one other n → AgreeBelow other one n
agree_turned one other n h k lt = sym (h k lt)

-- the items from a place on, where the item there follows another, follow that one
pub all_follow : (items : List Item) (n : ℕ) (a b : Item) → AreInOrder items → slice_get items n ≡ Some b → Precedes a b →
    (z : Item) (j : ℕ) → n ≤ j → slice_get items j ≡ Some z → Precedes a z
all_follow items n a b sorted at less z j le at' = elim (cases_eq j n) [
  | inl same ↦ subst (Precedes a) (at_once items n b z at (subst (λ k. slice_get items k ≡ Some z) same at')) less
  | inr ne ↦ precedes_then a b z less (sorted n j b z (omega arith) at at')
]

-- nothing is past the end
pub none_follow : (items : List Item) (n : ℕ) (a : Item) → length items ≤ n → (z : Item) (j : ℕ) → n ≤ j → slice_get items j ≡ Some z →
    Precedes a z
none_follow items n a past z j le at = absurd (let w = slice_get_within items j z at in omega (arith, w))

-- of two lists that agree before a place, the one whose item there precedes the other's items from there on comes first
pub first_here : (one other : List Item) (n : ℕ) (a : Item) → AreInOrder one → AgreeBelow one other n → slice_get one n ≡ Some a →
    ((z : Item) (j : ℕ) → n ≤ j → slice_get other j ≡ Some z → Precedes a z) → ComesFirst one other
first_here one other n a sorted agree at follow = record {
  item = a;
  has = contains_at one a n at;
  lacks = λ k.
      let (j, at') = place_of other a k in
      elim (cases_lt j n) [
        | inl lt ↦ not_itself a (sorted j n a a lt (agree j lt ∙ at') at)
        | inr ge ↦ not_itself a (follow a j ge at')
      ];
  below = λ z less. (
    λ k.
        let (j, at') = place_of one z k in
        elim (cases_lt j n) [
          | inl lt ↦ contains_at other z j (sym (agree j lt) ∙ at')
          | inr ge ↦ elim (cases_eq j n) [
            | inl same ↦ absurd (not_itself a
                (subst (λ y. Precedes y a) (at_once one n z a (subst (λ i. slice_get one i ≡ Some z) same at') at) less))
            | inr ne ↦ absurd (not_itself a (precedes_then a z a (sorted n j a z (omega arith) at at') less))
          ]
        ],
    λ k.
        let (j, at') = place_of other z k in
        elim (cases_lt j n) [
          | inl lt ↦ contains_at one z j (agree j lt ∙ at')
          | inr ge ↦ absurd (not_itself a (precedes_then a z a (follow z j ge at') less))
        ],
  );
}

-- lists that agree at all places have the same items
pub same_here : (one other : List Item) (n : ℕ) → length one ≤ n → length other ≤ n → AgreeBelow one other n → SameItems one other
same_here one other n past past' agree z = (
  λ k. (let (j, at) = place_of one z k in contains_at other z j (sym (agree j (let w =
      slice_get_within one j z at in omega (arith, w))) ∙ at)),
  λ k. (let (j, at) = place_of other z k in contains_at one z j (agree j (let w = slice_get_within other j z at in omega (arith, w)) ∙ at)),
)

-- a list each item of which precedes the next is in order
pub adjacent_order : (items : List Item) →
    ((k : ℕ) (a b : Item) → slice_get items k ≡ Some a → slice_get items (k + 1) ≡ Some b → Precedes a b) → AreInOrder items
adjacent_order items next i j a b lt at at' =
    let (d, is) = distance i j lt in far d i a b at (subst (λ k. slice_get items k ≡ Some b) is at')
  where
    distance : (i j : ℕ) → i < j → (d : ℕ) × (j ≡ suc (d + i))
    distance i zero lt = absurd (omega arith)
    distance i (suc j) lt = elim (cases_eq j i) [
      | inl same ↦ (0, omega arith)
      | inr ne ↦ (let (d, is) = distance i j (omega arith) in (suc d, omega (arith, is)))
    ]

    far : (d i : ℕ) (a b : Item) → slice_get items i ≡ Some a → slice_get items (suc (d + i)) ≡ Some b → Precedes a b
    far zero i a b at at' = next i a b at (subst (λ k. slice_get items k ≡ Some b) (let e : suc (0 + i) ≡ i + 1 = omega arith in e) at')
    far (suc d) i a b at at' =
        let lt : suc (d + i) < length items = (let w = slice_get_within items (suc (suc d + i)) b at' in omega (arith, w)) in
        let (c, here) = at_within items (suc (d + i)) lt in
        precedes_then a c b (far d i a c at here)
        (next (suc (d + i)) c b here (subst (λ k. slice_get items k ≡ Some b) (let e : suc (suc d + i) ≡ suc (d + i) + 1 =
        omega arith in e) at'))
