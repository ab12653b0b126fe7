-- Where an element of joined lists is.
use Rattle.std.proofs.Common.{◌≡◌, ◌⊎◌, ◌∙◌, ◌<◌, ◌≤◌, ◌+◌, ◌-◌, ◌++◌, ◌∷◌, [], ℕ, zero, suc, List, Some, length, map, option_map}
use Rattle.std.proofs.Common.{slice_get, refl, sym, ap, subst, inl, inr, arith}
use Rattle.std.proofs.lemmas.Bool.{cases_lt}
use Rattle.std.proofs.lemmas.List.{length-append}
use Rattle.std.proofs.lemmas.Option.{same_Some, slice_get_within, slice_get-map}
use Rattle.wb_lemmas.proofs.Places.{nothing_at, at_within, at_append, append_keeps, append_before, append_after}
use Rattle.wb_compose_theory.specs.Blocks.{spread}
use Rattle.wb_compose_theory_grammar.specs.Places.{count_before, total_of}
use Rattle.wb_compose_theory_grammar.proofs.PlaceLemmas.{within_total, spread_below, spread_middle, spread_past}
use Rattle.wb_compose_theory_lists.specs.Joined.{joined, numbered}

pub append_assoc : {X : Type 0} (xs ys zs : List X) → (xs ++ ys) ++ zs ≡ xs ++ (ys ++ zs)
append_assoc [] ys zs = refl
append_assoc (x ∷ xs) ys zs = ap (λ z. x ∷ z) (append_assoc xs ys zs)

-- elements with their numbers
pub numbered_at : {X Y : Type 0} (f : ℕ → X → Y) (number : ℕ) (xs : List X) (i : ℕ)
    → slice_get (numbered f number xs) i ≡ option_map (f (number + i)) (slice_get xs i)
numbered_at f number [] i = refl
numbered_at f number (x ∷ xs) zero = let e : number ≡ number + 0 = omega arith in ap (λ z. Some (f z x)) e
numbered_at f number (x ∷ xs) (suc i) =
    let e : suc number + i ≡ number + suc i = omega arith in
    numbered_at f (suc number) xs i ∙ ap (λ z. option_map (f z) (slice_get xs i)) e

pub numbered_length : {X Y : Type 0} (f : ℕ → X → Y) (number : ℕ) (xs : List X) → length (numbered f number xs) ≡ length xs
numbered_length f number [] = refl
numbered_length f number (x ∷ xs) = ap suc (numbered_length f (suc number) xs)

-- the lengths of lists that are made of elements
pub numbered_lengths : {X Y : Type 0} (f : ℕ → X → List Y) (size : X → ℕ) → ((k : ℕ) (x : X) → length (f k x) ≡ size x) → (number : ℕ)
    → (xs : List X) → map length (numbered f number xs) ≡ map size xs
numbered_lengths f size is number [] = refl
numbered_lengths f size is number (x ∷ xs) =
    ap (λ z. z ∷ map length (numbered f (suc number) xs)) (is number x)
    ∙ ap (λ z. size x ∷ z) (numbered_lengths f size is (suc number) xs)

module _ {X : Type 0} where
  pub joined_length : (xss : List (List X)) → length (joined xss) ≡ total_of (map length xss)
  joined_length [] = refl
  joined_length (xs ∷ xss) = length-append xs (joined xss) ∙ ap (λ z. length xs + z) (joined_length xss)

  pub joined_at : (xss : List (List X)) (k i : ℕ) (xs : List X) (x : X) → slice_get xss k ≡ Some xs → slice_get xs i ≡ Some x
      → slice_get (joined xss) (count_before (map length xss) k + i) ≡ Some x
  joined_at [] k i xs x at has = absurd (nothing_at xs k at)
  joined_at (ys ∷ xss) zero i xs x at has =
      let same : ys ≡ xs = same_Some ys xs at in
      let e : 0 + i ≡ i = omega arith in
      ap (slice_get (ys ++ joined xss)) e ∙ append_keeps ys (joined xss) i x (subst (λ z. slice_get z i ≡ Some x) (sym same) has)
  joined_at (ys ∷ xss) (suc k) i xs x at has =
      let e : (length ys + count_before (map length xss) k) + i ≡ length ys + (count_before (map length xss) k + i) = omega arith in
      ap (slice_get (ys ++ joined xss)) e
      ∙ (append_after ys (joined xss) (count_before (map length xss) k + i) ∙ joined_at xss k i xs x at has)

  -- the list that an element is of
  pub record From (xss : List (List X)) (number : ℕ) (x : X) : Type 0 where
    pub k : ℕ
    pub xs : List X
    pub i : ℕ
    pub at : slice_get xss k ≡ Some xs
    pub has : slice_get xs i ≡ Some x
    pub is : number ≡ count_before (map length xss) k + i

  pub joined_from : (xss : List (List X)) (number : ℕ) (x : X) → slice_get (joined xss) number ≡ Some x → From xss number x
  joined_from [] number x at = absurd (nothing_at x number at)
  joined_from (ys ∷ xss) number x at = elim (at_append ys (joined xss) x number at) [
    | inl here ↦
        let e : number ≡ 0 + number = omega arith in record { k = 0; xs = ys; i = number; at = refl; has = here; is = e }
    | inr (j, is, there) ↦
        let rest = joined_from xss j x there in
        let same = rest.is in
        let e : number ≡ (length ys + count_before (map length xss) rest.k) + rest.i = omega (arith, is, same) in
        record { k = suc rest.k; xs = rest.xs; i = rest.i; at = rest.at; has = rest.has; is = e }
  ]

  -- the list is this one of the lists, or nothing
  abbrev pub IsOf : List (List X) → ℕ → List X → Type 0
  IsOf xss k xs = (xs ≡ []) ⊎ (slice_get xss k ≡ Some xs)

  nothing_less : (xs : List X) (n : ℕ) → xs ≡ [] → length xs ≤ n
  nothing_less xs n is = let e : length xs ≡ 0 = ap length is in omega (arith, e)

  length_at : (xss : List (List X)) (k : ℕ) (xs : List X) → slice_get xss k ≡ Some xs → slice_get (map length xss) k ≡ Some (length xs)
  length_at xss k xs at = slice_get-map length xss k ∙ ap (option_map length) at

  pub fits : (xss : List (List X)) (k : ℕ) (xs : List X) → slice_get xss k ≡ Some xs
      → count_before (map length xss) k + length xs ≤ total_of (map length xss)
  fits xss k xs at = within_total (map length xss) k (length xs) (length_at xss k xs at)

  size_fits : (xss : List (List X)) (k : ℕ) (xs : List X) → IsOf xss k xs → length xs ≤ total_of (map length xss)
  size_fits xss k xs (inl none) = nothing_less xs (total_of (map length xss)) none
  size_fits xss k xs (inr at) = let e = fits xss k xs at in omega (arith, e)

  there : (xss : List (List X)) (k : ℕ) (xs : List X) (j : ℕ) → IsOf xss k xs → j < length xs → slice_get xss k ≡ Some xs
  there xss k xs j (inl none) less = let e : length xs ≡ 0 = ap length none in absurd (omega (arith, e, less))
  there xss k xs j (inr at) less = at

  module _ (before rest : List X) (xss : List (List X)) (k : ℕ) (xs : List X) (is_of : IsOf xss k xs) where
    abbrev place : ℕ → ℕ
    place i = spread (length before) (count_before (map length xss) k) (length xs) (total_of (map length xss)) i

    abbrev all : List X
    all = before ++ joined xss ++ rest

    abbrev one : List X
    one = before ++ xs ++ rest

    in_before : (ys : List X) (i : ℕ) → i < length before → slice_get (before ++ ys ++ rest) i ≡ slice_get before i
    in_before ys i less =
        let sum = length-append before ys in
        let within : i < length (before ++ ys) = omega (arith, less, sum) in
        append_before (before ++ ys) rest i within ∙ append_before before ys i less

    in_middle : (ys : List X) (j : ℕ) (x : X) → slice_get ys j ≡ Some x → slice_get (before ++ ys ++ rest) (length before + j) ≡ Some x
    in_middle ys j x has = append_keeps (before ++ ys) rest (length before + j) x (append_after before ys j ∙ has)

    in_rest : (ys : List X) (i j : ℕ) → i ≡ (length before + length ys) + j → slice_get (before ++ ys ++ rest) i ≡ slice_get rest j
    in_rest ys i j is =
        let sum = length-append before ys in
        let e : i ≡ length (before ++ ys) + j = omega (arith, is, sum) in
        ap (slice_get (before ++ ys ++ rest)) e ∙ append_after (before ++ ys) rest j

    middle : (i : ℕ) → length before ≤ i → i < length before + length xs → slice_get all (place i) ≡ slice_get one i
    middle i far less =
        let j : ℕ = i - length before in
        let i_is : i ≡ length before + (i - length before) = omega (arith, far) in
        let below : i - length before < length xs = omega (arith, far, less) in
        let (x, has) = at_within xs (i - length before) below in
        let at = there xss k xs (i - length before) is_of below in
        let count = count_before (map length xss) k in
        let place_is : i + count_before (map length xss) k
        ≡ length before + (count_before (map length xss) k + (i - length before)) = omega (arith, i_is) in
        let first = spread_middle (length before) (count_before (map length xss) k) (length xs) (total_of (map length xss)) i far less in
        ap (slice_get all) (first ∙ place_is)
        ∙ (in_middle (joined xss) (count_before (map length xss) k + (i - length before)) x
        (joined_at xss k (i - length before) xs x at has)
        ∙ sym (ap (slice_get one) i_is ∙ in_middle xs (i - length before) x has))

    past : (i : ℕ) → length before + length xs ≤ i → slice_get all (place i) ≡ slice_get one i
    past i far =
        let first = spread_past (length before) (count_before (map length xss) k) (length xs) (total_of (map length xss)) i far in
        let small = size_fits xss k xs is_of in
        let total = joined_length xss in
        let place_is : i + (total_of (map length xss) - length xs)
        ≡ (length before + length (joined xss)) + (i - (length before + length xs)) = omega (arith, far, small, total) in
        let i_is : i ≡ (length before + length xs) + (i - (length before + length xs)) = omega (arith, far) in
        ap (slice_get all) first
        ∙ (in_rest (joined xss) (i + (total_of (map length xss) - length xs)) (i - (length before + length xs)) place_is
        ∙ sym (in_rest xs i (i - (length before + length xs)) i_is))

    -- an element of the lists with one of them is there among all
    pub inserted : (i : ℕ) → slice_get all (place i) ≡ slice_get one i
    inserted i = elim (cases_lt i (length before)) [
      | inl less ↦
          ap (slice_get all) (spread_below (length before) (count_before (map length xss) k) (length xs) (total_of (map length xss)) i less)
          ∙ (in_before (joined xss) i less ∙ sym (in_before xs i less))
      | inr far ↦ elim (cases_lt i (length before + length xs)) [
        | inl less ↦ middle i far less
        | inr over ↦ past i over
      ]
    ]

    -- an element of all that is of none of the other lists comes from one there
    abbrev pub IsMine : X → Type 0
    IsMine x = (l : ℕ) (ys : List X) (i : ℕ) → slice_get xss l ≡ Some ys → slice_get ys i ≡ Some x → (l ≡ k) × (slice_get xss k ≡ Some xs)

    from_joined : (number j : ℕ) (x : X) → IsMine x → number ≡ length before + j → From xss j x → (i : ℕ) × (number ≡ place i)
    from_joined number j x mine number_is from =
        let (k_is, at) = mine from.k from.xs from.i from.at from.has in
        let here = subst (λ z. slice_get xss z ≡ Some from.xs) k_is from.at in
        let same : from.xs ≡ xs = same_Some from.xs xs (sym here ∙ at) in
        let less : from.i < length xs = slice_get_within xs from.i x (subst (λ z. slice_get z from.i ≡ Some x) same from.has) in
        let far : length before ≤ length before + from.i = omega arith in
        let below : length before + from.i < length before + length xs = omega (arith, less) in
        let placed = spread_middle (length before) (count_before (map length xss) k) (length xs) (total_of (map length xss))
        (length before + from.i) far below in
        let count : count_before (map length xss) from.k ≡ count_before (map length xss) k = ap (count_before (map length xss)) k_is in
        let j_is = from.is in
        let e : number ≡ (length before + from.i) + count_before (map length xss) k = omega (arith, number_is, j_is, count) in
        (length before + from.i, e ∙ sym placed)

    pub inserted_from : (number : ℕ) (x : X) → slice_get all number ≡ Some x → IsMine x → (i : ℕ) × (number ≡ place i)
    inserted_from number x at mine = elim (at_append (before ++ joined xss) rest x number at) [
      | inl here ↦ elim (at_append before (joined xss) x number here) [
        | inl first ↦
            let less : number < length before = slice_get_within before number x first in (
              number,
              sym (spread_below (length before) (count_before (map length xss) k) (length xs) (total_of
                  (map length xss)) number less),
            )
        | inr (j, is, second) ↦ from_joined number j x mine is (joined_from xss j x second)
      ]
      | inr (j, is, last) ↦
          let sum = length-append before (joined xss) in
          let total = joined_length xss in
          let small = size_fits xss k xs is_of in
          let far : length before + length xs ≤ (length before + length xs) + j = omega arith in
          let placed = spread_past (length before) (count_before (map length xss) k) (length xs) (total_of (map length xss))
          ((length before + length xs) + j) far in
          let e : number ≡ ((length before + length xs) + j) + (total_of (map length xss) - length xs) = omega
          (arith, is, sum, total, small) in
          ((length before + length xs) + j, e ∙ sym placed)
    ]
