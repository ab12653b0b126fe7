-- The places of numbers, as numbers are added.
use Rattle.std.proofs.Common.{◌≡◌, ◌≢◌, ℕ, zero, suc, ◌<◌, ◌⊎◌, List, []}
use Rattle.std.proofs.Common.{◌∷◌, ◌++◌, length, set, replicate, Option, Some, None, Contains}
use Rattle.std.proofs.Common.{refl, sym, ap, ◌∙◌, subst, inl, inr, arith}
use Rattle.std.specs.Prelude.{slice_get, slice_index_or, ◌≤◌}
use Rattle.std.proofs.lemmas.Option.{slice_get-get_or, same_Some}
use Rattle.wb_lemmas.proofs.Places.{at_one, at_push, push_keeps, push_last}
use Rattle.wb_lemmas.proofs.Members.{contains_at}
use Rattle.wb_recheck_lines.specs.States.{ArePlaces, HasPlace}

set_same : {X : Type 0} (xs : List X) (i : ℕ) (x : X) → i < length xs → slice_get (set xs i x) i ≡ Some x
set_same [] i x lt = absurd (omega (arith, lt))
set_same (y ∷ xs) zero x lt = refl
set_same (y ∷ xs) (suc i) x lt = set_same xs i x (omega (arith, lt))

set_long : {X : Type 0} (xs : List X) (i : ℕ) (x : X) → length (set xs i x) ≡ length xs
set_long [] zero x = refl
set_long [] (suc i) x = refl
set_long (y ∷ xs) zero x = refl
set_long (y ∷ xs) (suc i) x = ap suc (set_long xs i x)

-- what a list has after a change is the new element at its place, or was there
set_cases : {X : Type 0} (xs : List X) (i j : ℕ) (x y : X) → slice_get (set xs i x) j ≡ Some y →
    ((i ≡ j) × (x ≡ y)) ⊎ (slice_get xs j ≡ Some y)
set_cases [] zero j x y at = inr at
set_cases [] (suc i) j x y at = inr at
set_cases (z ∷ xs) zero zero x y at = inl (refl, same_Some x y at)
set_cases (z ∷ xs) zero (suc j) x y at = inr at
set_cases (z ∷ xs) (suc i) zero x y at = inr at
set_cases (z ∷ xs) (suc i) (suc j) x y at =
    elim (set_cases xs i j x y at) [ inl (is, same) ↦ inl (ap suc is, same) | inr old ↦ inr old ]

set_other : {X : Type 0} (xs : List X) (i j : ℕ) (x y : X) → i ≢ j → slice_get xs j ≡ Some y → slice_get (set xs i x) j ≡ Some y
set_other [] i j x y differ at = cc
set_other (z ∷ xs) zero zero x y differ at = absurd (differ refl)
set_other (z ∷ xs) zero (suc j) x y differ at = at
set_other (z ∷ xs) (suc i) zero x y differ at = at
set_other (z ∷ xs) (suc i) (suc j) x y differ at = set_other xs i j x y (λ same. differ (ap suc same)) at

none_there : {X : Type 0} (n j : ℕ) (y : X) → slice_get (replicate n None) j ≡ Some (Some y) → ⊥
none_there zero j y at = cc
none_there (suc n) zero y at = cc
none_there (suc n) (suc j) y at = none_there n j y at

-- the number 0 alone
pub places_start : (places : List (Option ℕ)) (count : ℕ) → 0 < count → places ≡ set (replicate count None) 0 (Some 0) →
    ArePlaces (0 ∷ []) places
places_start places count some is = subst (ArePlaces (0 ∷ [])) (sym is) (record {
  below = λ k s at. (
      let one = at_one 0 s k at in
      let long = set_long {X = Option ℕ} (replicate count None) 0 (Some 0) in
      let whole = replicate_long count in
      let zero_s = one.1 in
      omega (arith, long, whole, zero_s, some)
      );
  there = λ k s at. there k s (at_one 0 s k at);
  back = λ k s at. back k s (set_cases (replicate count None) 0 s (Some 0) (Some k) at);
})
  where
    nothing : Option ℕ
    nothing = None

    replicate_long : (n : ℕ) → length (replicate n nothing) ≡ n
    replicate_long zero = refl
    replicate_long (suc n) = ap suc (replicate_long n)

    there : (k s : ℕ) → (k ≡ 0) × (0 ≡ s) → slice_get (set (replicate count None) 0 (Some 0)) s ≡ Some (Some k)
    there k s (first, zero_s) =
        let at : slice_get (set (replicate count None) 0 (Some 0)) 0 ≡ Some (Some 0) =
        set_same (replicate count None) 0 (Some 0) (let whole = replicate_long count in omega (arith, whole, some)) in
        subst (λ z. slice_get (set (replicate count None) 0 (Some 0)) z ≡ Some (Some k)) zero_s
        (at ∙ ap (λ z. Some (Some z)) (sym first))

    back : (k s : ℕ) → ((0 ≡ s) × (Some 0 ≡ Some k)) ⊎ (slice_get (replicate count None) s ≡ Some (Some k)) → slice_get (0 ∷ []) k ≡ Some s
    back k s (inl (zero_s, zero_k)) =
        let k_is : 0 ≡ k = same_Some 0 k zero_k in
        subst (λ z. slice_get (0 ∷ []) z ≡ Some s) k_is (ap Some zero_s)
    back k s (inr old) = absurd (none_there count s k old)

-- one number more, which is new
pub places_more : (states : List ℕ) (places after : List (Option ℕ)) (s : ℕ) → ArePlaces states places → s < length places →
    ¬ Contains states s → after ≡ set places s (Some (length states)) → ArePlaces (states ++ s ∷ []) after
places_more states places after s are lt new is = subst (ArePlaces (states ++ s ∷ [])) (sym is) (record {
  below = λ k t at. (let long = set_long places s (Some (length states)) in below k t (at_push states s t k at) long);
  there = λ k t at. there k t (at_push states s t k at);
  back = λ k t at. back k t (set_cases places s t (Some (length states)) (Some k) at);
})
  where
    below : (k t : ℕ) → (slice_get states k ≡ Some t) ⊎ ((k ≡ length states) × (s ≡ t)) →
        length (set places s (Some (length states))) ≡ length places → t < length (set places s (Some (length states)))
    below k t (inl old) long = let b = are.below k t old in omega (arith, b, long)
    below k t (inr (last, same)) long = omega (arith, same, lt, long)

    there : (k t : ℕ) → (slice_get states k ≡ Some t) ⊎ ((k ≡ length states) × (s ≡ t)) →
        slice_get (set places s (Some (length states))) t ≡ Some (Some k)
    there k t (inl old) =
        set_other places s t (Some (length states)) (Some k) (λ same. new (contains_at states s k (old
        ∙ ap Some (sym same)))) (are.there k t old)
    there k t (inr (last, same)) =
        subst (λ z. slice_get (set places s (Some (length states))) z ≡ Some (Some k)) same
        (set_same places s (Some (length states)) lt ∙ ap (λ z. Some (Some z)) (sym last))

    back : (k t : ℕ) → ((s ≡ t) × (Some (length states) ≡ Some k)) ⊎ (slice_get places t ≡ Some (Some k)) →
        slice_get (states ++ s ∷ []) k ≡ Some t
    back k t (inl (same, is_k)) =
        let last : length states ≡ k = same_Some (length states) k is_k in
        subst (λ z. slice_get (states ++ s ∷ []) z ≡ Some t) last (push_last states s ∙ ap Some same)
    back k t (inr old) = push_keeps states s k t (are.back k t old)

-- where the place of a number is kept
pub has_place : (states : List ℕ) (places : List (Option ℕ)) (s k : ℕ) → ArePlaces states places → slice_get places s ≡ Some (Some k) →
    HasPlace states s (Some k)
has_place states places s k are at = are.back k s at

pub has_no_place : (states : List ℕ) (places : List (Option ℕ)) (s : ℕ) → ArePlaces states places → slice_get places s ≡ Some None →
    HasPlace states s None
has_no_place states places s are at (k, within, is) = other (are.there k s (place states k s within is)) where
  place : (l : List ℕ) (k s : ℕ) (within : k < length l) → slice_index_or l k s ≡ s → slice_get l k ≡ Some s
  place l k s within same = slice_get-get_or l k s within ∙ ap Some same

  other : slice_get places s ≡ Some (Some k) → ⊥
  other there = let both : Some None ≡ Some (Some k) = sym at ∙ there in cc

pub has_none_past : (states : List ℕ) (places : List (Option ℕ)) (s : ℕ) → ArePlaces states places → length places ≤ s →
    HasPlace states s None
has_none_past states places s are past (k, within, is) =
    let at : slice_get states k ≡ Some s = slice_get-get_or states k s within ∙ ap Some is in
    let below = are.below k s at in
    omega (arith, below, past)
