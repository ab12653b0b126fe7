-- How sets are given to the items of one kernel after another.
use Rattle.std.proofs.Common.{◌≡◌, ℕ, ◌+◌, ◌<◌, ◌≤◌, ◌⊎◌, zero, suc, Bool, List, [], ◌∷◌, ◌++◌, All, length, get_or}
use Rattle.std.proofs.Common.{set, take, Some}
use Rattle.std.proofs.Common.{refl, sym, ◌∙◌, ap, subst, inl, inr, arith, length-append, length-set}
use Rattle.std.specs.Prelude.{◌↔◌, IfSome, slice_get}
use Rattle.std.proofs.lemmas.List.{take_more}
use Rattle.std.proofs.lemmas.List.Elements.{All-push}
use Rattle.std.proofs.lemmas.Option.{slice_get-get_or, slice_get_within, same_Some}
use Rattle.wb_lemmas.proofs.Places.{at_push, at_take, at_within, push_keeps, push_last}
use Rattle.wb_base.specs.Grammar.{GrammarView}
use Rattle.wb_grammar_theory.specs.declared.item.Item.{Item}
use Rattle.wb_grammar_theory.specs.Productions.{IsProduction}
use Rattle.wb_grammar_theory.proofs.ProductionLemmas.{production_once}
use Rattle.wb_items.specs.declared.numbering.Made.{Made}
use Rattle.wb_items.specs.Apart.{BelongTogether, Opens}
use Rattle.wb_items.specs.Kernels.{AreInOrder, Precedes}
use Rattle.wb_items.specs.Inner.Numbering.{AddsSet, AreGiven, AreMade, GivesNumber, IsRowApart, again, alone, empty_set, opened}

-- an item is opened by one nonterminal alone
opens_once : (g : GrammarView) (item : Item) (b c : ℕ) → Opens g b item → Opens g c item → b ≡ c
opens_once g item b c (_, v, one) (_, w, other) = (production_once g item.production b c v w one other).0

-- the left side of a production opens its initial item
pub left_opens : (g : GrammarView) (item : Item) (left : ℕ) → item.dot ≤ 0 → item.production < length g.productions →
    IfSome (slice_get g.productions item.production) (λ r. left ≡ r.0) → Opens g left item
left_opens g item left low lt e =
    let (r, at) = at_within g.productions item.production lt in
    let is : left ≡ r.0 = subst (λ o. IfSome o (λ z. left ≡ z.0)) at e in
    (omega (arith, low), r.1, subst (λ z. IsProduction g item.production z r.1) (sym is) at)

belong_back : (g : GrammarView) (one other : Item) → BelongTogether g one other → BelongTogether g other one
belong_back g one other (inl same) = inl (sym same)
belong_back g one other (inr (b, o, p)) = inr (b, p, o)

-- a place of two lists to which one more was pushed
pair_push : (items : List Item) (numbers : List ℕ) (item a : Item) (n m i : ℕ) → length numbers ≡ length items →
    slice_get (items ++ item ∷ []) i ≡ Some a → slice_get (numbers ++ n ∷ []) i ≡ Some m →
    ((slice_get items i ≡ Some a) × (slice_get numbers i ≡ Some m)) ⊎ ((i ≡ length items) × (item ≡ a) × (n ≡ m))
pair_push items numbers item a n m i len at there = elim (at_push items item a i at) [
  | inl before ↦ elim (at_push numbers n m i there) [
    | inl old ↦ inl (before, old)
    | inr (last, _) ↦ (let w = slice_get_within items i a before in absurd (omega (arith, w, last, len)))
  ]
  | inr (last, is) ↦ elim (at_push numbers n m i there) [
    | inl old ↦ (let w = slice_get_within numbers i m old in absurd (omega (arith, w, last, len)))
    | inr (_, same) ↦ inr (last, is, same)
  ]
]

-- an item more that has the number of exactly those that it belongs with
row_more : (g : GrammarView) (items : List Item) (numbers : List ℕ) (first last more : ℕ) (item : Item) (n : ℕ) →
    IsRowApart g items numbers first last → last ≤ more → first ≤ n → n < more →
    ((i m : ℕ) (a : Item) → slice_get items i ≡ Some a → slice_get numbers i ≡ Some m → (m ≡ n) ↔ BelongTogether g a item) →
    IsRowApart g (items ++ item ∷ []) (numbers ++ n ∷ []) first more
row_more g items numbers first last more item n row grows from below joins = record {
  fit = length-append numbers (n ∷ []) ∙ ap (λ k. k + 1) row.fit ∙ sym (length-append items (item ∷ []));
  within = λ i m at. elim (at_push numbers n m i at) [
    | inl old ↦ (let (ge, lt) = row.within i m old in (ge, omega (arith, lt, grows)))
    | inr (_, is) ↦ (omega (arith, from, is), omega (arith, below, is))
  ];
  apart = λ i j a b m k at_i has_i at_j has_j.
      both a b m k (pair_push items numbers item a n m i row.fit at_i has_i) (pair_push items numbers item b n k j row.fit at_j has_j);
}
  where
    both : {i j : ℕ} (a b : Item) (m k : ℕ) →
        ((slice_get items i ≡ Some a) × (slice_get numbers i ≡ Some m)) ⊎ ((i ≡ length items) × (item ≡ a) × (n ≡ m)) →
        ((slice_get items j ≡ Some b) × (slice_get numbers j ≡ Some k)) ⊎ ((j ≡ length items) × (item ≡ b) × (n ≡ k)) →
        (m ≡ k) ↔ BelongTogether g a b
    both {i} {j} a b m k (inl (at, has)) (inl (at', has')) = row.apart i j a b m k at has at' has'
    both {i} a b m k (inl (at, has)) (inr (_, is, same)) =
        subst (λ z. (m ≡ k) ↔ BelongTogether g a z) is (subst (λ z. (m ≡ z) ↔ BelongTogether g a item) same (joins i m a at has))
    both {i} {j} a b m k (inr (_, is, same)) (inl (at', has')) = (
      λ e. belong_back g b a (subst (λ z. BelongTogether g b z) is ((joins j k b at' has').0 (sym e ∙ sym same))),
      λ t. sym same ∙ sym ((joins j k b at' has').1 (subst (λ z. BelongTogether g b z) (sym is) (belong_back g a b t))),
    )
    both a b m k (inr (_, is, same)) (inr (_, is', same')) = (λ e. inl (sym is ∙ is'), λ t. sym same ∙ same')

-- a set more
made_more : (g : GrammarView) (old new : Made) (n : ℕ) → AreMade g old → AddsSet g old.sets.items n new.sets.items →
    length new.opened.items ≡ length old.opened.items →
    ((b count : ℕ) → slice_get new.opened.items b ≡ Some count →
    (slice_get old.opened.items b ≡ Some count) ⊎ (count ≡ n + 1)) → AreMade g new
made_more g old new n h (n_is, is) len from = record {
  empty = subst (All (λ (z : List Bool). z ≡ empty_set g)) (sym is)
      (All-push (λ (z : List Bool). z ≡ empty_set g) old.sets.items (empty_set g) h.empty refl);
  len = len ∙ h.len;
  below = λ b count at. elim (from b count at) [
    | inl before ↦ (let le = h.below b count before in omega (arith, le, longer))
    | inr new ↦ omega (arith, new, n_is, longer)
  ];
}
  where
    longer : length new.sets.items ≡ length old.sets.items + 1
    longer = ap length is ∙ length-append old.sets.items (empty_set g ∷ [])

-- what stands at a place of a list that was changed at one
set_at : (xs : List ℕ) (j b x y : ℕ) → slice_get (set xs j x) b ≡ Some y → ((b ≡ j) × (y ≡ x)) ⊎ ((b ≡ j → ⊥) × (slice_get xs b ≡ Some y))
set_at [] j b x y at = cc
set_at (z ∷ xs) zero zero x y at = inl (refl, sym (same_Some x y at))
set_at (z ∷ xs) zero (suc b) x y at = inr (λ e. absurd (omega (arith, e)), at)
set_at (z ∷ xs) (suc j) zero x y at = inr (λ e. absurd (omega (arith, e)), at)
set_at (z ∷ xs) (suc j) (suc b) x y at = elim (set_at xs j b x y at) [
  | inl (same, is) ↦ inl (ap suc same, is)
  | inr (other, before) ↦ inr (λ e. other (omega (arith, e)), before)
]

set_same : (xs : List ℕ) (j x y : ℕ) → slice_get xs j ≡ Some y → slice_get (set xs j x) j ≡ Some x
set_same [] j x y at = cc
set_same (z ∷ xs) zero x y at = refl
set_same (z ∷ xs) (suc j) x y at = set_same xs j x y at

set_other : (xs : List ℕ) (j b x y : ℕ) → (b ≡ j → ⊥) → slice_get xs b ≡ Some y → slice_get (set xs j x) b ≡ Some y
set_other [] j b x y ne at = cc
set_other (z ∷ xs) zero zero x y ne at = absurd (ne refl)
set_other (z ∷ xs) zero (suc b) x y ne at = at
set_other (z ∷ xs) (suc j) zero x y ne at = at
set_other (z ∷ xs) (suc j) (suc b) x y ne at = set_other xs j b x y (λ e. ne (ap suc e)) at

-- the item isn't among those before it
abbrev pub IsNew : List Item → Item → Type 0
IsNew items item = (i : ℕ) → slice_get items i ≡ Some item → ⊥

-- an item more
pub given_more : (g : GrammarView) (items : List Item) (numbers : List ℕ) (first : ℕ) (item : Item) (n : ℕ) (old new : Made) →
    AreGiven g items numbers first old → IsNew items item → GivesNumber g first item old n new →
    AreGiven g (items ++ item ∷ []) (numbers ++ n ∷ []) first new
given_more g items numbers first item n old new h fresh (again b opens at from sets_are opened_are) =
    let (i0, a0, at0, has0, opens0) = h.sound b n at from in
    let below : n < length old.sets.items = (h.row.within i0 n has0).1 in
    let joins : (i m : ℕ) (a : Item) → slice_get items i ≡ Some a → slice_get numbers i ≡ Some m → (m ≡ n) ↔ BelongTogether g a item =
    λ i m a a_at a_has. (
      λ e. elim ((h.row.apart i i0 a a0 m n a_at a_has at0 has0).0 e) [
        | inl same ↦ inr (b, subst (Opens g b) (sym same) opens0, opens)
        | inr (c, one, other) ↦ inr (b, subst (λ z. Opens g z a) (opens_once g a0 c b other opens0) one, opens)
      ],
      λ t. elim t [
        | inl same ↦ absurd (fresh i (a_at ∙ ap Some same))
        | inr (c, one, other) ↦
            (h.row.apart i i0 a a0 m n a_at a_has at0 has0).1 (inr (
              c,
              one,
              subst (λ z. Opens g z a0)
                  (opens_once g item b c opens other) opens0,
            ))
      ],
    ) in
    record {
      are_made = record {
        empty = subst (All (λ (z : List Bool). z ≡ empty_set g)) (sym sets_are) h.are_made.empty;
        len = ap length opened_are ∙ h.are_made.len;
        below = λ c count there. subst (λ z. count ≤ length z) (sym sets_are)
            (h.are_made.below c count (subst (λ z. slice_get z c ≡ Some count) opened_are there));
      };
      since = subst (λ z. first ≤ length z) (sym sets_are) h.since;
      row = row_more g items numbers first (length old.sets.items) (length new.sets.items) item n h.row
          (let e = ap length sets_are in omega (arith, e)) from (let e = ap length sets_are in omega (arith, e, below)) joins;
      known = λ i c m a a_at a_has a_opens. subst (λ z. slice_get z c ≡ Some (m + 1)) (sym opened_are)
          (elim (pair_push items numbers item a n m i h.row.fit a_at a_has) [
            | inl (before, had) ↦ h.known i c m a before had a_opens
            | inr (_, is, same) ↦
                subst (λ z. slice_get old.opened.items z ≡ Some (m + 1))
                (opens_once g a b c (subst (Opens g b) is opens) a_opens) (at ∙ ap (λ k. Some (k + 1)) same)
          ]);
      sound = λ c m there ge.
          let (i, a, a_at, a_has, a_opens) = h.sound c m (subst (λ z. slice_get z c ≡ Some (m + 1)) opened_are there) ge in
          (i, a, push_keeps items item i a a_at, push_keeps numbers n i m a_has, a_opens);
    }
given_more g items numbers first item n old new h fresh (opened b count opens at le adds opened_are) =
    let longer : length new.sets.items ≡ length old.sets.items + 1 = ap length adds.1 ∙ length-append old.sets.items (empty_set g ∷ []) in
    let n_is : n ≡ length old.sets.items = adds.0 in
    let none : (i m : ℕ) (a : Item) → slice_get items i ≡ Some a → slice_get numbers i ≡ Some m → Opens g b a → ⊥ =
    λ i m a a_at a_has o. (
    let same : count ≡ m + 1 = same_Some count (m + 1) (sym at ∙ h.known i b m a a_at a_has o) in
    let ge : first ≤ m = (h.row.within i m a_has).0 in
    omega (arith, same, ge, le)
    ) in
    let joins : (i m : ℕ) (a : Item) → slice_get items i ≡ Some a → slice_get numbers i ≡ Some m → (m ≡ n) ↔ BelongTogether g a item =
    λ i m a a_at a_has. (
      λ e. (let lt = (h.row.within i m a_has).1 in absurd (omega (arith, e, lt, n_is))),
      λ t. elim t [
        | inl same ↦ absurd (fresh i (a_at ∙ ap Some same))
        | inr (c, one, other) ↦ absurd (none i m a a_at a_has (subst (λ z. Opens g z a) (opens_once g item c b other opens) one))
      ],
    ) in
    record {
      are_made = made_more g old new n h.are_made adds (ap length opened_are ∙ length-set old.opened.items b (n + 1))
          (λ c k there. elim (set_at old.opened.items b c (n + 1) k (subst (λ z. slice_get z c ≡ Some k) opened_are there)) [
            | inl (_, is) ↦ inr is
            | inr (_, before) ↦ inl before
          ]);
      since = (let s = h.since in omega (arith, s, longer));
      row = row_more g items numbers first (length old.sets.items) (length new.sets.items) item n h.row (omega (arith, longer))
          (let s = h.since in omega (arith, s, n_is)) (omega (arith, longer, n_is)) joins;
      known = λ i c m a a_at a_has a_opens. subst (λ z. slice_get z c ≡ Some (m + 1)) (sym opened_are)
          (elim (pair_push items numbers item a n m i h.row.fit a_at a_has) [
            | inl (before, had) ↦ set_other old.opened.items b c (n + 1) (m + 1)
                (λ e. none i m a before had (subst (λ z. Opens g z a) e a_opens)) (h.known i c m a before had a_opens)
            | inr (_, is, same) ↦
                subst (λ z. slice_get (set old.opened.items b (n + 1)) z ≡ Some (m + 1))
                (opens_once g a b c (subst (Opens g b) is opens) a_opens)
                (set_same old.opened.items b (n + 1) count at ∙ ap (λ k. Some (k + 1)) same)
          ]);
      sound = λ c m there ge. elim
          (set_at old.opened.items b c (n + 1) (m + 1) (subst (λ z. slice_get z c ≡ Some (m + 1)) opened_are there)) [
            | inl (same, is) ↦ (
              length items,
              item,
              push_last items item,
              subst (λ z. slice_get (numbers ++ n ∷ []) z ≡ Some m) h.row.fit
                  (push_last numbers n ∙ ap Some (let e : n ≡ m = omega (arith, is) in e)),
              subst (λ z. Opens g z item) (sym same) opens,
            )
            | inr (_, before) ↦
                let (i, a, a_at, a_has, a_opens) = h.sound c m before ge in
                (i, a, push_keeps items item i a a_at, push_keeps numbers n i m a_has, a_opens)
          ];
    }
given_more g items numbers first item n old new h fresh (alone none adds opened_are) =
    let longer : length new.sets.items ≡ length old.sets.items + 1 = ap length adds.1 ∙ length-append old.sets.items (empty_set g ∷ []) in
    let n_is : n ≡ length old.sets.items = adds.0 in
    let joins : (i m : ℕ) (a : Item) → slice_get items i ≡ Some a → slice_get numbers i ≡ Some m → (m ≡ n) ↔ BelongTogether g a item =
    λ i m a a_at a_has. (
      λ e. (let lt = (h.row.within i m a_has).1 in absurd (omega (arith, e, lt, n_is))),
      λ t. elim t [
        | inl same ↦ absurd (fresh i (a_at ∙ ap Some same))
        | inr (c, one, other) ↦ absurd (none c other)
      ],
    ) in
    record {
      are_made = made_more g old new n h.are_made adds (ap length opened_are)
          (λ c k there. inl (subst (λ z. slice_get z c ≡ Some k) opened_are there));
      since = (let s = h.since in omega (arith, s, longer));
      row = row_more g items numbers first (length old.sets.items) (length new.sets.items) item n h.row (omega (arith, longer))
          (let s = h.since in omega (arith, s, n_is)) (omega (arith, longer, n_is)) joins;
      known = λ i c m a a_at a_has a_opens. subst (λ z. slice_get z c ≡ Some (m + 1)) (sym opened_are)
          (elim (pair_push items numbers item a n m i h.row.fit a_at a_has) [
            | inl (before, had) ↦ h.known i c m a before had a_opens
            | inr (_, is, same) ↦ absurd (none c (subst (Opens g c) (sym is) a_opens))
          ]);
      sound = λ c m there ge.
          let (i, a, a_at, a_has, a_opens) = h.sound c m (subst (λ z. slice_get z c ≡ Some (m + 1)) opened_are there) ge in
          (i, a, push_keeps items item i a a_at, push_keeps numbers n i m a_has, a_opens);
    }

-- no item yet
pub given_none : (g : GrammarView) (made : Made) → AreMade g made → AreGiven g [] [] (length made.sets.items) made
given_none g made h = record {
  are_made = h;
  since = omega arith;
  row = record { fit = refl; within = λ i n at. cc; apart = λ i j one other m n at has at' has'. cc };
  known = λ i b n item at has opens. cc;
  sound = λ b n at ge. (let le = h.below b (n + 1) at in absurd (omega (arith, le, ge)));
}

-- the item at the next place
pub given_next : (g : GrammarView) (items : List Item) (i : ℕ) (d : Item) (numbers more : List ℕ) (first n : ℕ) (old new : Made) →
    AreInOrder items → i < length items → AreGiven g (take i items) numbers first old →
    GivesNumber g first (get_or items i d) old n new → more ≡ numbers ++ n ∷ [] → AreGiven g (take (i + 1) items) more first new
given_next g items i d numbers more first n old new in_order lt h gives more_is =
    let item : Item = get_or items i d in
    let both : AreGiven g (take i items ++ item ∷ []) (numbers ++ n ∷ []) first new =
    given_more g (take i items) numbers first item n old new h fresh gives in
    subst (λ z. AreGiven g z more first new) (sym (take_more items i d lt))
    (subst (λ z. AreGiven g (take i items ++ item ∷ []) z first new) (sym more_is) both)
  where
    not_before : (item : Item) → Precedes item item → ⊥
    not_before item (inl less) = omega arith
    not_before item (inr less) = (let f = less.1 in omega (arith, f))

    fresh : IsNew (take i items) (get_or items i d)
    fresh j at =
        let (below, there) = at_take items i j (get_or items i d) at in
        not_before (get_or items i d) (in_order j i (get_or items i d) (get_or items i d) below there (slice_get-get_or items i d lt))
