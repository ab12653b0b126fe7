-- An item that gets the set of a number, and a set more.
use Rattle.std.proofs.Common.{◌≡◌, ℕ, ◌+◌, ◌<◌, Bool, List, [], ◌∷◌, ◌++◌, length, get_or, set, Some, refl, sym, ◌∙◌, ap, subst}
use Rattle.std.proofs.Common.{inl, inr, arith, length-append, length-set, get_or-set_same, get_or-set_other}
use Rattle.std.specs.Prelude.{◌↔◌, All, slice_get, slice_index_or, slice_set}
use Rattle.std.proofs.lemmas.Bool.{cases_eq, cases_lt}
use Rattle.std.proofs.lemmas.List.{get_or_past}
use Rattle.std.proofs.lemmas.List.Elements.{All-push}
use Rattle.std.proofs.lemmas.Option.{slice_get_within, slice_get-get_or}
use Rattle.wb_lemmas.proofs.Places.{at_once, at_within, default_at, push_keeps, push_last}
use Rattle.wb_grammar_theory.specs.declared.item.Item.{Item}
use Rattle.wb_termset.specs.Sets.{IsMember}
use Rattle.wb_items.specs.Kernels.{AreInOrder, KernelsView}
use Rattle.wb_items.specs.Lookaheads.{AreLookaheadsOf, AreNumbered, HasNumber, Lists, LookaheadsView, items_of, numbers_of, row_of, set_of}
use Rattle.wb_items.proofs.RowLemmas.{listed_by, lists_by, numbers_read, row_len}
use Rattle.wb_items.proofs.CallerLemmas.{place_once}

module _ {old new : LookaheadsView} (h : AreNumbered old) (s place number : ℕ) (item : Item)
    (at : slice_get (items_of old s) place ≡ Some item)
    (is : new ≡ record old { numbers = slice_set old.numbers s (slice_set (numbers_of old s) place number) }) where
  abbrev row : List ℕ
  row = set (numbers_of old s) place number

  within : place < length (numbers_of old s)
  within = (let w = slice_get_within (items_of old s) place item at in let e = h.fit s in omega (arith, w, e))

  row_within : s < length old.numbers
  row_within = elim (cases_lt s (length old.numbers)) [
    | inl lt ↦ lt
    | inr past ↦ (let w : place < length {A = ℕ} [] = subst (λ (z : List ℕ). place < length z) (get_or_past old.numbers s [] past) within in
        absurd (omega (arith, w)))
  ]

  items_same : (k : ℕ) → items_of new k ≡ items_of old k
  items_same k = ap (λ (z : LookaheadsView). items_of z k) is

  here : (k : ℕ) → k ≡ s → numbers_of new k ≡ row
  here k same = ap (λ (z : LookaheadsView). numbers_of z k) is ∙ ap (λ j. get_or (set old.numbers s row) j []) same ∙
      get_or-set_same old.numbers s row [] row_within

  there : (k : ℕ) → (k ≡ s → ⊥) → numbers_of new k ≡ numbers_of old k
  there k other = ap (λ (z : LookaheadsView). numbers_of z k) is ∙ get_or-set_other old.numbers s k row [] other

  number_here : slice_get (numbers_of new s) place ≡ Some number
  number_here = subst (λ z. slice_get z place ≡ Some number) (sym (here s refl))
      (slice_get-get_or row place number (let e = length-set (numbers_of old s) place number in let w = within in omega (arith, e, w)) ∙
      ap Some (get_or-set_same (numbers_of old s) place number number within))

  -- the item has the number
  pub put_number : HasNumber new s item number
  put_number = (place, subst (λ z. slice_get z place ≡ Some item) (sym (items_same s)) at, number_here)

  -- and no other changes
  pub put_other : (k : ℕ) (i : Item) (n : ℕ) → (((k ≡ s) × (i ≡ item)) → ⊥) → HasNumber old k i n ↔ HasNumber new k i n
  put_other k i n ne = elim (cases_eq k s) [
    | inr other ↦ (
      λ (j, i_at, has). (
        j,
        subst (λ z. slice_get z j ≡ Some i) (sym (items_same k)) i_at,
        subst (λ z. slice_get z j ≡ Some n) (sym (there k other)) has,
      ),
      λ (j, i_at, has). (
        j,
        subst (λ z. slice_get z j ≡ Some i) (items_same k) i_at,
        subst (λ z. slice_get z j ≡ Some n) (there k other) has,
      ),
    )
    | inl same ↦ (
      λ (j, i_at, has). (
        j,
        subst (λ z. slice_get z j ≡ Some i) (sym (items_same k)) i_at,
        subst (λ z. slice_get z j ≡ Some n) (sym (here k same)) (away j n (differs same j i_at)
            (subst (λ z. slice_get (numbers_of old z) j ≡ Some n) same has)),
      ),
      λ (j, i_at, has).
          let old_at : slice_get (items_of old k) j ≡ Some i = subst (λ z. slice_get z j ≡ Some i) (items_same k) i_at in (
            j,
            old_at,
            subst (λ z. slice_get (numbers_of old z) j ≡ Some n) (sym same)
                (back j n (differs same j old_at) (subst (λ z. slice_get z j ≡ Some n) (here k same) has)),
          ),
    )
  ]
    where
      differs : k ≡ s → (j : ℕ) → slice_get (items_of old k) j ≡ Some i → j ≡ place → ⊥
      differs same j i_at is_place = ne (
        same,
        at_once (items_of old s) place i item
            (subst (λ z. slice_get (items_of old s) z ≡ Some i) is_place (subst (λ z. slice_get (items_of old z) j ≡ Some i) same i_at)) at,
      )

      away : (j n : ℕ) → (j ≡ place → ⊥) → slice_get (numbers_of old s) j ≡ Some n → slice_get row j ≡ Some n
      away j n other has =
          let w = slice_get_within (numbers_of old s) j n has in
          slice_get-get_or row j n (let e = length-set (numbers_of old s) place number in omega (arith, e, w)) ∙
          ap Some (get_or-set_other (numbers_of old s) place j number n other ∙ default_at (numbers_of old s) j n n has)

      back : (j n : ℕ) → (j ≡ place → ⊥) → slice_get row j ≡ Some n → slice_get (numbers_of old s) j ≡ Some n
      back j n other has =
          let w = slice_get_within row j n has in
          slice_get-get_or (numbers_of old s) j n (let e = length-set (numbers_of old s) place number in omega (arith, e, w)) ∙
          ap Some (sym (get_or-set_other (numbers_of old s) place j number n other) ∙ default_at row j n n has)

  -- the item has this number alone
  pub put_number_once : (n : ℕ) → HasNumber new s item n → n ≡ number
  put_number_once n (j, i_at, has) =
      let j_is : j ≡ place = place_once h s item j place (subst (λ z. slice_get z j ≡ Some item) (items_same s) i_at) at in
      at_once row place n number (subst (λ z. slice_get row z ≡ Some n) j_is (subst (λ z. slice_get z j ≡ Some n) (here s refl) has))
      (subst (λ z. slice_get z place ≡ Some number) (here s refl) number_here)

  sets_same : (n : ℕ) → set_of new n ≡ set_of old n
  sets_same n = ap (λ (z : LookaheadsView). set_of z n) is

  -- at the item is listed what the set has
  pub put_lists : (t : ℕ) → Lists new s item t ↔ IsMember (set_of old number) t
  put_lists t = (
    λ lists.
        let (n, has, member) = listed_by new s item t lists in
        subst (λ z. IsMember z t) (sets_same n ∙ ap (set_of old) (put_number_once n has)) member,
    λ member. lists_by new s item number t put_number (subst (λ z. IsMember z t) (sym (sets_same number)) member),
  )

  -- and at others what was
  pub put_lists_other : (k : ℕ) (i : Item) (t : ℕ) → (((k ≡ s) × (i ≡ item)) → ⊥) → Lists old k i t ↔ Lists new k i t
  put_lists_other k i t ne = (
    λ lists.
        let (n, has, member) = listed_by old k i t lists in
        lists_by new k i n t ((put_other k i n ne).0 has) (subst (λ z. IsMember z t) (sym (sets_same n)) member),
    λ lists.
        let (n, has, member) = listed_by new k i t lists in
        lists_by old k i n t ((put_other k i n ne).1 has) (subst (λ z. IsMember z t) (sets_same n) member),
  )

  numbers_len : (k : ℕ) → length (numbers_of new k) ≡ length (numbers_of old k)
  numbers_len k = elim (cases_eq k s) [
    | inl same ↦ ap length (here k same) ∙ length-set (numbers_of old s) place number ∙ ap (λ z. length (numbers_of old z)) (sym same)
    | inr other ↦ ap length (there k other)
  ]

  pub put_numbered : number < length old.sets → AreNumbered new
  put_numbered lt = record {
    rows = ap (λ (z : LookaheadsView). length z.numbers) is ∙ length-set old.numbers s row ∙ h.rows ∙
        ap (λ (z : LookaheadsView). length z.items) (sym is);
    fit = λ k. numbers_len k ∙ h.fit k ∙ ap length (sym (items_same k));
    below = λ k j n has. subst (λ (z : LookaheadsView). n < length z.sets) (sym is) (elim (cases_eq k s) [
      | inl same ↦ in_row j n (subst (λ z. slice_get z j ≡ Some n) (here k same) has)
      | inr other ↦ h.below k j n (subst (λ z. slice_get z j ≡ Some n) (there k other) has)
    ]);
    in_order = λ k. subst AreInOrder (sym (items_same k)) (h.in_order k);
  }
    where
      in_row : (j n : ℕ) → slice_get row j ≡ Some n → n < length old.sets
      in_row j n has = elim (cases_eq j place) [
        | inl same ↦
            let e : n ≡ number = sym (default_at row j n n has) ∙ ap (λ z. get_or row z n) same ∙
            get_or-set_same (numbers_of old s) place number n within in
            omega (arith, e, lt)
        | inr other ↦
            let w = slice_get_within row j n has in
            h.below s j n (slice_get-get_or (numbers_of old s) j n
            (let e = length-set (numbers_of old s) place number in omega (arith, e, w)) ∙
            ap Some (sym (get_or-set_other (numbers_of old s) place j number n other) ∙ default_at row j n n has))
      ]

  pub put_shape : {kernels : KernelsView} → number < length old.sets → AreLookaheadsOf kernels old → AreLookaheadsOf kernels new
  put_shape {kernels} lt shape = record {
    items = ap (λ (z : LookaheadsView). z.items) is ∙ shape.items;
    numbered = put_numbered lt;
    widths = subst (λ (z : LookaheadsView). All (λ (a : List Bool). length a ≡ kernels.grammar.terminals + 1) z.sets) (sym is)
        shape.widths;
  }

-- what is read and put at a place of a row
pub put_kept : {v now : LookaheadsView} → v ≡ now → AreNumbered v → (s place number : ℕ) → s < length now.items →
    place < length (row_of now s) → number < length now.sets → (read row : List ℕ) → read ≡ slice_index_or v.numbers s read →
    row ≡ slice_set read place number → AreNumbered (record v { numbers = slice_set v.numbers s row })
put_kept {v} {now} same h s place number lt within below read row is row_is =
    let read_is : read ≡ numbers_of v s =
    numbers_read refl h s (subst (λ (z : LookaheadsView). s < length z.items) (sym same) lt) read is in
    let place_in : place < length (row_of v s) = subst (λ (z : LookaheadsView). place < length (row_of z s)) (sym same) within in
    let (item, at) = at_within (items_of v s) place (let e = row_len h s in omega (arith, e, place_in)) in
    let e : row ≡ slice_set (numbers_of v s) place number = row_is ∙ ap (λ z. slice_set z place number) read_is in
    put_numbered {new = record v { numbers = slice_set v.numbers s row }} h s place number item at
    (ap (λ z. record v { numbers = slice_set v.numbers s z }) e) (subst (λ (z : LookaheadsView). number < length z.sets) (sym same) below)

module _ {old new : LookaheadsView} (h : AreNumbered old) (added : List Bool) (is : new ≡ record old { sets = old.sets ++ added ∷ [] }) where
  longer : length new.sets ≡ length old.sets + 1
  longer = ap (λ (z : LookaheadsView). length z.sets) is ∙ length-append old.sets (added ∷ [])

  -- the set that was added has the last number
  pub added_set : set_of new (length old.sets) ≡ added
  added_set = ap (λ (z : LookaheadsView). set_of z (length old.sets)) is ∙
      default_at (old.sets ++ added ∷ []) (length old.sets) [] added (push_last old.sets added)

  -- and each other its number
  pub added_other : (n : ℕ) → n < length old.sets → set_of new n ≡ set_of old n
  added_other n lt = ap (λ (z : LookaheadsView). set_of z n) is ∙
      default_at (old.sets ++ added ∷ []) n [] (set_of old n)
      (push_keeps old.sets added n (set_of old n) (slice_get-get_or old.sets n [] lt))

  pub added_numbers : (s : ℕ) (item : Item) (n : ℕ) → HasNumber old s item n ↔ HasNumber new s item n
  added_numbers s item n = (
    subst (λ (z : LookaheadsView). HasNumber old s item n → HasNumber z s item n) (sym is) (λ x. x),
    subst (λ (z : LookaheadsView). HasNumber z s item n → HasNumber old s item n) (sym is) (λ x. x),
  )

  below_here : (s : ℕ) (item : Item) (n : ℕ) → HasNumber old s item n → n < length old.sets
  below_here s item n (place, at, has) = h.below s place n has

  -- what is listed stays, and nothing else comes
  pub added_lists : (s : ℕ) (item : Item) (t : ℕ) → Lists old s item t ↔ Lists new s item t
  added_lists s item t = (
    λ lists.
        let (n, has, member) = listed_by old s item t lists in
        lists_by new s item n t ((added_numbers s item n).0 has)
        (subst (λ z. IsMember z t) (sym (added_other n (below_here s item n has))) member),
    λ lists.
        let (n, has, member) = listed_by new s item t lists in
        let before = (added_numbers s item n).1 has in
        lists_by old s item n t before (subst (λ z. IsMember z t) (added_other n (below_here s item n before)) member),
  )

  pub added_shape : {kernels : KernelsView} → length added ≡ kernels.grammar.terminals + 1 → AreLookaheadsOf kernels old →
      AreLookaheadsOf kernels new
  added_shape {kernels} wide shape =
      let P = λ (a : List Bool). length a ≡ kernels.grammar.terminals + 1 in
      record {
        items = ap (λ (z : LookaheadsView). z.items) is ∙ shape.items;
        numbered = subst AreNumbered (sym is) (record {
          rows = h.rows;
          fit = h.fit;
          below = λ s place n has. (let lt = h.below s place n has in let e = length-append old.sets (added ∷ []) in omega (arith, lt, e));
          in_order = h.in_order;
        });
        widths = subst (λ (z : LookaheadsView). All P z.sets) (sym is) (All-push P old.sets added shape.widths wide);
      }
