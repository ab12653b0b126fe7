-- Kernels whose items have numbers, and one kernel more.
use Rattle.std.proofs.Common.{◌≡◌, ℕ, ◌+◌, ◌<◌, ◌≤◌, ◌⊎◌, zero, suc, Bool, false, List, [], ◌∷◌, ◌++◌, length, map, replicate, take, Some}
use Rattle.std.proofs.Common.{refl, sym, ◌∙◌, ap, subst, inl, inr, arith, length-append}
use Rattle.std.specs.Prelude.{◌↔◌, All, slice_get, slice_index_or}
use Rattle.std.proofs.lemmas.Bool.{cases_eq}
use Rattle.std.proofs.lemmas.List.{length-map, length-replicate, take_all, take_more}
use Rattle.std.proofs.lemmas.List.Elements.{All-cons, All-nil, All-weaker}
use Rattle.std.proofs.lemmas.Option.{same_Some}
use Rattle.wb_termset.specs.Sets.{IsEmpty}
use Rattle.wb_termset.proofs.CallerLemmas.{IsEmpty-replicate}
use Rattle.wb_base.specs.Grammar.{GrammarView}
use Rattle.wb_grammar_theory.specs.declared.item.Item.{Item}
use Rattle.wb_items.specs.declared.numbering.Made.{Made}
use Rattle.wb_items.specs.Apart.{AreApart, BelongTogether}
use Rattle.wb_items.specs.Inner.Numbering.{AreMade, IsRowApart, NumberedUpTo, empty_set}
use Rattle.wb_items.specs.Kernels.{AreInOrder, KernelsView}
use Rattle.wb_items.specs.Lookaheads.{AreNumbered, HasNumber, LookaheadsView, items_of, numbers_of}

-- a list that one more was pushed to, at another place
other_row : {X : Type 0} (xs : List X) (x d : X) (s : ℕ) → (s ≡ length xs → ⊥) →
    slice_index_or (xs ++ x ∷ []) s d ≡ slice_index_or xs s d
other_row [] x d zero ne = absurd (ne refl)
other_row [] x d (suc s) ne = refl
other_row (y ∷ xs) x d zero ne = refl
other_row (y ∷ xs) x d (suc s) ne = other_row xs x d s (λ e. ne (ap suc e))

-- and at the last one
last_row : {X : Type 0} (xs : List X) (x d : X) → slice_index_or (xs ++ x ∷ []) (length xs) d ≡ x
last_row [] x d = refl
last_row (y ∷ xs) x d = last_row xs x d

abbrev view_of : List (List Item) → List (List ℕ) → List (List Bool) → LookaheadsView
view_of items numbers sets = record { items = items; numbers = numbers; sets = sets }

module _ (g : GrammarView) (items : List (List Item)) (numbers : List (List ℕ)) (sets more : List (List Bool)) (row : List Item)
    (given : List ℕ) (h : AreNumbered (view_of items numbers sets)) (in_order : AreInOrder row)
    (apart : IsRowApart g row given (length sets) (length more)) (grows : length sets ≤ length more) where
  abbrev old : LookaheadsView
  old = view_of items numbers sets

  abbrev new : LookaheadsView
  new = view_of (items ++ row ∷ []) (numbers ++ given ∷ []) more

  here_items : (s : ℕ) → s ≡ length items → items_of new s ≡ row
  here_items s same = ap (items_of new) same ∙ last_row items row []

  here_numbers : (s : ℕ) → s ≡ length items → numbers_of new s ≡ given
  here_numbers s same = ap (numbers_of new) (same ∙ sym h.rows) ∙ last_row numbers given []

  there_items : (s : ℕ) → (s ≡ length items → ⊥) → items_of new s ≡ items_of old s
  there_items s other = other_row items row [] s other

  there_numbers : (s : ℕ) → (s ≡ length items → ⊥) → numbers_of new s ≡ numbers_of old s
  there_numbers s other = other_row numbers given [] s (λ e. other (e ∙ h.rows))

  pub numbered_more : AreNumbered new
  numbered_more = record {
    rows = length-append numbers (given ∷ []) ∙ ap (λ k. k + 1) h.rows ∙ sym (length-append items (row ∷ []));
    fit = λ s. elim (cases_eq s (length items)) [
      | inl same ↦ ap length (here_numbers s same) ∙ apart.fit ∙ sym (ap length (here_items s same))
      | inr other ↦ ap length (there_numbers s other) ∙ h.fit s ∙ sym (ap length (there_items s other))
    ];
    below = λ s place n at. elim (cases_eq s (length items)) [
      | inl same ↦ (apart.within place n (subst (λ z. slice_get z place ≡ Some n) (here_numbers s same) at)).1
      | inr other ↦
          let lt = h.below s place n (subst (λ z. slice_get z place ≡ Some n) (there_numbers s other) at) in
          omega (arith, lt, grows)
    ];
    in_order = λ s. elim (cases_eq s (length items)) [
      | inl same ↦ subst AreInOrder (sym (here_items s same)) in_order
      | inr other ↦ subst AreInOrder (sym (there_items s other)) (h.in_order s)
    ];
  }

  -- an item's number is one of the new kernel or an old one
  abbrev Here : ℕ → Item → ℕ → Type 0
  Here s item n = (s ≡ length items) × (place : ℕ) × (slice_get row place ≡ Some item) × (slice_get given place ≡ Some n)

  abbrev There : ℕ → Item → ℕ → Type 0
  There s item n = (s ≡ length items → ⊥) × HasNumber old s item n

  either : (s : ℕ) (item : Item) (n : ℕ) → HasNumber new s item n → Here s item n ⊎ There s item n
  either s item n (place, at, has) = elim (cases_eq s (length items)) [
    | inl same ↦ inl (
      same,
      place,
      subst (λ z. slice_get z place ≡ Some item) (here_items s same) at,
      subst (λ z. slice_get z place ≡ Some n) (here_numbers s same) has,
    )
    | inr other ↦ inr (
      other,
      (
        place,
        subst (λ z. slice_get z place ≡ Some item) (there_items s other) at,
        subst (λ z. slice_get z place ≡ Some n) (there_numbers s other) has,
      ),
    )
  ]

  -- an old number is below those of the new kernel
  differ : (s k : ℕ) (one other : Item) (m n : ℕ) → There s one m → Here k other n → (m ≡ n → ⊥) × (s ≡ k → ⊥)
  differ s k one other m n (not, (place, at, has)) (last, place', at', has') = (
    λ e. let lt = h.below s place m has in let ge = (apart.within place' n has').0 in omega (arith, e, lt, ge),
    λ e. not (e ∙ last),
  )

  pub apart_more : AreApart g old → AreApart g new
  apart_more before s k one other m n p q = both (either s one m p) (either k other n q) where
    both : Here s one m ⊎ There s one m → Here k other n ⊎ There k other n → (m ≡ n) ↔ ((s ≡ k) × BelongTogether g one other)
    both (inl (last, i, at, has)) (inl (last', j, at', has')) = (
      λ e. (last ∙ sym last', (apart.apart i j one other m n at has at' has').0 e),
      λ t. (apart.apart i j one other m n at has at' has').1 t.1,
    )
    both (inl x) (inr y) =
        let d = differ k s other one n m y x in
        (λ e. absurd (d.0 (sym e)), λ t. absurd (d.1 (sym t.0)))
    both (inr x) (inl y) = (let d = differ s k one other m n x y in (λ e. absurd (d.0 e), λ t. absurd (d.1 t.0)))
    both (inr (_, x)) (inr (_, y)) = before s k one other m n x y

-- one kernel more
pub numbered_next : (kernels : KernelsView) (n : ℕ) (numbers more : List (List ℕ)) (old new : Made) (row : List Item) (given : List ℕ) →
    NumberedUpTo kernels n numbers old → n < length kernels.closures → row ≡ slice_index_or kernels.closures n [] → AreInOrder row →
    IsRowApart kernels.grammar row given (length old.sets.items) (length new.sets.items) →
    length old.sets.items ≤ length new.sets.items → AreMade kernels.grammar new → more ≡ numbers ++ given ∷ [] →
    NumberedUpTo kernels (n + 1) more new
numbered_next kernels n numbers more old new row given h lt row_is in_order apart grows made more_is =
    let firsts : List (List Item) = take n kernels.closures in
    let next : take (n + 1) kernels.closures ≡ firsts ++ row ∷ [] =
    take_more kernels.closures n [] lt ∙ ap (λ z. firsts ++ z ∷ []) (sym row_is) in
    let views : view_of (firsts ++ row ∷ []) (numbers ++ given ∷ []) new.sets.items ≡
    view_of (take (n + 1) kernels.closures) more new.sets.items = λ i. view_of (sym next i) (sym more_is i) new.sets.items in
    record {
      are_made = made;
      numbered = subst AreNumbered views (numbered_more kernels.grammar firsts numbers old.sets.items new.sets.items row given h.numbered
          in_order apart grows);
      apart = subst (AreApart kernels.grammar) views (apart_more kernels.grammar firsts numbers old.sets.items new.sets.items row given
          h.numbered in_order apart grows h.apart);
    }

-- no kernel yet
pub numbered_none : (kernels : KernelsView) (made : Made) → AreMade kernels.grammar made → NumberedUpTo kernels 0 [] made
numbered_none kernels made h = record {
  are_made = h;
  numbered = record { rows = refl; fit = λ s. refl; below = λ s place n at. cc; in_order = λ s i j a b lt p q. cc };
  apart = λ s k one other m n p q. (let e = p.2 in cc);
}

-- all kernels
pub numbered_all : (kernels : KernelsView) (numbers : List (List ℕ)) (made : Made) (items : List (List Item)) →
    NumberedUpTo kernels (length kernels.closures) numbers made → items ≡ kernels.closures →
    AreNumbered (view_of items numbers made.sets.items) × AreApart kernels.grammar (view_of items numbers made.sets.items)
numbered_all kernels numbers made items h is =
    let same : take (length kernels.closures) kernels.closures ≡ items =
    take_all (length kernels.closures) kernels.closures (omega arith) ∙ sym is in (
      subst (λ (z : List (List Item)). AreNumbered (view_of z numbers made.sets.items)) same h.numbered,
      subst (λ (z : List (List Item)). AreApart kernels.grammar (view_of z numbers made.sets.items)) same h.apart,
    )

-- the sets that were made are empty and have room
pub made_wide : (g : GrammarView) (made : Made) → AreMade g made → All (λ (z : List Bool). length z ≡ g.terminals + 1) made.sets.items
made_wide g made h = All-weaker (λ (z : List Bool). z ≡ empty_set g) (λ (z : List Bool). length z ≡ g.terminals + 1)
    (λ z e. ap length e ∙ length-replicate (g.terminals + 1) false) made.sets.items h.empty

pub made_empty : (g : GrammarView) (made : Made) → AreMade g made → All IsEmpty made.sets.items
made_empty g made h = All-weaker (λ (z : List Bool). z ≡ empty_set g) IsEmpty
    (λ z e. subst IsEmpty (sym e) (IsEmpty-replicate (g.terminals + 1))) made.sets.items h.empty

-- one set for the items of all kernels
zeros_at : (items : List (List Item)) (s : ℕ) → slice_index_or (map (λ row. replicate {A = ℕ} (length row) 0) items) s [] ≡
    replicate {A = ℕ} (length (slice_index_or items s [])) 0
zeros_at [] s = refl
zeros_at (row ∷ items) zero = refl
zeros_at (row ∷ items) (suc s) = zeros_at items s

zero_there : (count place n : ℕ) → slice_get (replicate count 0) place ≡ Some n → n ≡ 0
zero_there zero place n at = cc
zero_there (suc count) zero n at = sym (same_Some 0 n at)
zero_there (suc count) (suc place) n at = zero_there count place n at

pub one_numbered : (items : List (List Item)) (numbers : List (List ℕ)) (sets : List (List Bool)) →
    numbers ≡ map (λ row. replicate (length row) 0) items → 0 < length sets → ((s : ℕ) → AreInOrder (slice_index_or items s [])) →
    AreNumbered (view_of items numbers sets)
one_numbered items numbers sets is some in_order = record {
  rows = ap length is ∙ length-map items (λ row. replicate (length row) 0);
  fit = λ s. ap length (here s) ∙ length-replicate (length (slice_index_or items s [])) 0;
  below = λ s place n at.
      let e : n ≡ 0 = zero_there (length (slice_index_or items s [])) place n (subst (λ z. slice_get z place ≡ Some n) (here s) at) in
      omega (arith, e, some);
  in_order = in_order;
}
  where
    here : (s : ℕ) → slice_index_or numbers s [] ≡ replicate (length (slice_index_or items s [])) 0
    here s = ap (λ z. slice_index_or z s []) is ∙ zeros_at items s

pub one_wide : {width : ℕ} (none sets : List (List Bool)) (one : List Bool) (count : ℕ) → none ≡ [] → sets ≡ none ++ one ∷ [] →
    one ≡ replicate count false → count ≡ width → All (λ (z : List Bool). length z ≡ width) sets
one_wide {width} none sets one count none_is is one_is count_is =
    subst (All (λ (z : List Bool). length z ≡ width)) (sym (is ∙ ap (λ z. z ++ one ∷ []) none_is))
    (All-cons (λ (z : List Bool). length z ≡ width) one [] (ap length one_is ∙ length-replicate count false ∙ count_is)
    (All-nil (λ (z : List Bool). length z ≡ width)))

pub one_empty : (none sets : List (List Bool)) (one : List Bool) (count : ℕ) → none ≡ [] → sets ≡ none ++ one ∷ [] →
    one ≡ replicate count false → All IsEmpty sets
one_empty none sets one count none_is is one_is =
    subst (All IsEmpty) (sym (is ∙ ap (λ z. z ++ one ∷ []) none_is))
    (All-cons IsEmpty one [] (subst IsEmpty (sym one_is) (IsEmpty-replicate count)) (All-nil IsEmpty))
