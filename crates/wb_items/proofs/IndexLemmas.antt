-- Numbers of kernels by the order of the kernels: the search by binary search, and a number more.
use Rattle.std.proofs.Common.{◌≡◌, ℕ, ◌+◌, ◌-◌, ◌<◌, ◌≤◌, List, [], ◌∷◌, ◌++◌, length, get_or, Some, sym, ◌∙◌, ap, subst, inl, inr, arith}
use Rattle.std.proofs.Common.{length-append}
use Rattle.std.specs.List.{insert}
use Rattle.std.specs.Prelude.{slice_get, Contains}
use Rattle.std.proofs.lemmas.Option.{slice_get_within, slice_get-get_or}
use Rattle.std.proofs.lemmas.Bool.{cases_eq, cases_lt}
use Rattle.std.proofs.lemmas.List.Edits.{length-insert, get_or-insert_below, get_or-insert_at, get_or-insert_above}
use Rattle.wb_lemmas.proofs.Places.{at_once, at_push, default_at}
use Rattle.wb_lemmas.proofs.Members.{contains_at, place_of}
use Rattle.wb_grammar_theory.specs.declared.item.Item.{Item}
use Rattle.wb_items.specs.Kernels.{AreInOrder}
use Rattle.wb_items.specs.KernelOrder.{ComesFirst, IsIndex, LiesWithin}
use Rattle.wb_items.specs.Table.{SameItems}
use Rattle.wb_items.proofs.CompareLemmas.{first_then, first_not_same, first_not_turned}

module _ (kernels : List (List Item)) (order : List ℕ) (items : List Item) (low high middle number : ℕ) (kernel : List Item)
    (index : IsIndex order kernels) (at : slice_get order middle ≡ Some number) (there : slice_get kernels number ≡ Some kernel)
    (h : LiesWithin kernels order items low high) where
  -- the kernel in the middle comes before
  pub search_above : middle < high → ComesFirst kernel items → LiesWithin kernels order items (middle + 1) high
  search_above lt first = record {
    rises = omega arith;
    ends = h.ends;
    before = λ i s other less at' there'. elim (cases_eq i middle) [
      | inl same ↦
          let e : s ≡ number = at_once order middle s number (subst (λ k. slice_get order k ≡ Some s) same at') at in
          subst (λ z. ComesFirst z items)
          (at_once kernels number kernel other there (subst (λ k. slice_get kernels k ≡ Some other) e there')) first
      | inr ne ↦ first_then other kernel items (index.rising i middle s number other kernel (omega arith) at' at there' there) first
    ];
    beyond = h.beyond;
  }

  -- the kernel in the middle comes after
  pub search_below : low ≤ middle → middle < high → ComesFirst items kernel → LiesWithin kernels order items low middle
  search_below le lt first = record {
    rises = le;
    ends = omega (arith, h.ends);
    before = h.before;
    beyond = λ i s other past at' there'. elim (cases_eq i middle) [
      | inl same ↦
          let e : s ≡ number = at_once order middle s number (subst (λ k. slice_get order k ≡ Some s) same at') at in
          subst (λ z. ComesFirst items z)
          (at_once kernels number kernel other there (subst (λ k. slice_get kernels k ≡ Some other) e there')) first
      | inr ne ↦ first_then items kernel other first (index.rising middle i number s kernel other (omega arith) at at' there there')
    ];
  }

-- where nothing is left, no kernel has these items
pub search_none : (kernels : List (List Item)) (order : List ℕ) (items : List Item) (place : ℕ) → IsIndex order kernels →
    LiesWithin kernels order items place place → (s : ℕ) (kernel : List Item) → slice_get kernels s ≡ Some kernel → ¬ SameItems kernel items
search_none kernels order items place index h s kernel there same =
    let (i, at) = place_of order s (index.all s (slice_get_within kernels s kernel there)) in
    elim (cases_lt i place) [
      | inl lt ↦ first_not_same kernel items (h.before i s kernel lt at there) same
      | inr ge ↦ first_not_turned items kernel (h.beyond i s kernel ge at there) same
    ]

-- an element of a list with one put in
data Inserted (xs : List ℕ) (i y k z : ℕ) : Type 0 where
  left : k < i → slice_get xs k ≡ Some z → Inserted xs i y k z
  itself : k ≡ i → y ≡ z → Inserted xs i y k z
  right : i < k → slice_get xs (k - 1) ≡ Some z → Inserted xs i y k z

inserted : (xs : List ℕ) (i y k z : ℕ) → i ≤ length xs → slice_get (insert xs i y) k ≡ Some z → Inserted xs i y k z
inserted xs i y k z le at =
    let lt = slice_get_within (insert xs i y) k z at in
    let is : get_or (insert xs i y) k z ≡ z = default_at (insert xs i y) k z z at in
    let len = length-insert xs i y le in
    elim (cases_lt k i) [
      | inl less ↦ left less (slice_get-get_or xs k z (omega arith) ∙ ap Some (sym (get_or-insert_below xs i y z k less le) ∙ is))
      | inr ge ↦ elim (cases_eq k i) [
        | inl same ↦ itself same (sym (get_or-insert_at xs i y z le) ∙ ap (λ j. get_or (insert xs i y) j z) (sym same) ∙ is)
        | inr ne ↦
            let j = k - 1 in
            let e : k ≡ j + 1 = omega arith in
            right (omega arith) (slice_get-get_or xs j z (omega arith) ∙
            ap Some (sym (get_or-insert_above xs i y z j (omega arith) le) ∙ ap (λ m. get_or (insert xs i y) m z) (sym e) ∙ is))
      ]
    ]

put_at : (xs : List ℕ) (i y : ℕ) → i ≤ length xs → Contains (insert xs i y) y
put_at xs i y le = contains_at (insert xs i y) y i (slice_get-get_or (insert xs i y) i y (omega (arith, length-insert xs i y le)) ∙
    ap Some (get_or-insert_at xs i y y le))

stays : (xs : List ℕ) (i y z : ℕ) → i ≤ length xs → Contains xs z → Contains (insert xs i y) z
stays xs i y z le k =
    let (j, at) = place_of xs z k in
    let lt = slice_get_within xs j z at in
    let is : get_or xs j z ≡ z = default_at xs j z z at in
    let len = length-insert xs i y le in
    elim (cases_lt j i) [
      | inl less ↦ contains_at (insert xs i y) z j (slice_get-get_or (insert xs i y) j z (omega arith) ∙
          ap Some (get_or-insert_below xs i y z j less le ∙ is))
      | inr ge ↦ contains_at (insert xs i y) z (j + 1) (slice_get-get_or (insert xs i y) (j + 1) z (omega arith) ∙
          ap Some (get_or-insert_above xs i y z j ge le ∙ is))
    ]

module _ (kernels : List (List Item)) (order : List ℕ) (new : List Item) (place : ℕ) (index : IsIndex order kernels)
    (lies : LiesWithin kernels order new place place) (sorted : AreInOrder new) where
  old_at : (s : ℕ) (kernel : List Item) → s < length kernels → slice_get (kernels ++ new ∷ []) s ≡ Some kernel →
      slice_get kernels s ≡ Some kernel
  old_at s kernel lt at = elim (at_push kernels new kernel s at) [ inl old ↦ old | inr last ↦ absurd (omega (arith, last.0)) ]

  new_at : (s : ℕ) (kernel : List Item) → length kernels ≡ s → slice_get (kernels ++ new ∷ []) s ≡ Some kernel → new ≡ kernel
  new_at s kernel e at = elim (at_push kernels new kernel s at) [
    | inl old ↦ absurd (let lt =
        slice_get_within kernels s kernel old in omega (arith, lt))
    | inr last ↦ last.1
  ]

  -- the number of a new kernel goes to its place
  pub index_more : IsIndex (insert order place (length kernels)) (kernels ++ new ∷ [])
  index_more = record {
    sorted = λ s kernel there. elim (at_push kernels new kernel s there) [
      | inl old ↦ index.sorted s kernel old
      | inr last ↦ subst AreInOrder last.1 sorted
    ];
    below = λ i s at. (let len = length-append {A =
        List Item} kernels (new ∷ []) in elim (inserted order place (length kernels) i s lies.ends at) [
          | left lt old ↦ (let b = index.below i s old in omega (arith, b, len))
          | itself e f ↦ omega (arith, f, len)
          | right gt old ↦ (let b = index.below (i - 1) s old in omega (arith, b, len))
        ]);
    all = λ s lt. (let len = length-append {A = List Item} kernels (new ∷ []) in elim (cases_eq s (length kernels)) [
      | inl same ↦ subst (Contains (insert order place (length kernels))) (sym same) (put_at order place (length kernels) lies.ends)
      | inr ne ↦ stays order place (length kernels) s lies.ends (index.all s (omega (arith, len)))
    ]);
    rising = λ i j s t one other lt p q one_at other_at. elim (inserted order place (length kernels) i s lies.ends p) [
      | left less old ↦ elim (inserted order place (length kernels) j t lies.ends q) [
        | left less' old' ↦ index.rising i j s t one other lt old old' (old_at s one (index.below i s old) one_at)
            (old_at t other (index.below j t old') other_at)
        | itself e f ↦ subst (ComesFirst one) (new_at t other f other_at)
            (lies.before i s one less old (old_at s one (index.below i s old) one_at))
        | right gt old' ↦ index.rising i (j - 1) s t one other (omega arith) old old' (old_at s one (index.below i s old) one_at)
            (old_at t other (index.below (j - 1) t old') other_at)
      ]
      | itself e f ↦ elim (inserted order place (length kernels) j t lies.ends q) [
        | left less' old' ↦ absurd (omega arith)
        | itself e' f' ↦ absurd (omega arith)
        | right gt old' ↦ subst (λ z. ComesFirst z other) (new_at s one f one_at)
            (lies.beyond (j - 1) t other (omega arith) old' (old_at t other (index.below (j - 1) t old') other_at))
      ]
      | right gt old ↦ elim (inserted order place (length kernels) j t lies.ends q) [
        | left less' old' ↦ absurd (omega arith)
        | itself e' f' ↦ absurd (omega arith)
        | right gt' old' ↦ index.rising (i - 1) (j - 1) s t one other (omega arith) old old'
            (old_at s one (index.below (i - 1) s old) one_at) (old_at t other (index.below (j - 1) t old') other_at)
      ]
    ];
  }
