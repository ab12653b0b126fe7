-- What has a property among the elements of a list, in order.
use Rattle.std.proofs.Common.{◌≡◌, ◌<◌, inl, inr, ℕ, zero, suc, List, [], ◌∷◌, sym, subst, arith, Contains}
use Rattle.std.proofs.Common.{slice_get, Some}
use Rattle.std.specs.Prelude.{◌↔◌}
use Rattle.std.proofs.lemmas.Option.{same_Some}
use Rattle.wb_lemmas.proofs.Members.{contains_at, contains_cases, contains_first, contains_later, nothing_in}
use Rattle.wb_lemmas.proofs.Places.{nothing_at}
use Rattle.wb_lemmas.proofs.NotNot.{decide, certain, follows, bind}

module _ {X : Type 0} (Before : X → X → Type 0) where
  -- each element comes before all after it
  pub data Rising : List X → Type 0 where
    nil : Rising []
    cons : (x : X) (xs : List X) → ((y : X) → Contains xs y → Before x y) → Rising xs → Rising (x ∷ xs)

  pub rising_places : (xs : List X) → Rising xs → (i j : ℕ) (x y : X) → i < j → slice_get xs i ≡ Some x → slice_get xs j ≡ Some y → Before x y
  rising_places [] nil i j x y lt at to = absurd (nothing_at x i at)
  rising_places (z ∷ xs) (cons _ _ before r) zero zero x y lt at to = absurd (omega (arith, lt))
  rising_places (z ∷ xs) (cons _ _ before r) zero (suc j) x y lt at to =
      subst (λ w. Before w y) (same_Some z x at) (before y (contains_at xs y j to))
  rising_places (z ∷ xs) (cons _ _ before r) (suc i) zero x y lt at to = absurd (omega (arith, lt))
  rising_places (z ∷ xs) (cons _ _ before r) (suc i) (suc j) x y lt at to = rising_places xs r i j x y (omega (arith, lt)) at to

  module _ (P : X → Type 0) where
    -- the elements that have the property, in order
    pub record IsPart (xs ys : List X) : Type 0 where
      pub rising : Rising ys
      pub exact : (y : X) → Contains ys y ↔ (Contains xs y × P y)

    with_one : (x : X) (xs ys : List X) → ((y : X) → Contains xs y → Before x y) → P x → IsPart xs ys → IsPart (x ∷ xs) (x ∷ ys)
    with_one x xs ys before p h = record {
      rising = cons x ys (λ y has. before y ((h.exact y).0 has).0) h.rising;
      exact = λ y. (
        λ has. elim (contains_cases x y ys has) [
          | inl e ↦ subst (λ z. Contains (x ∷ xs) z × P z) e (contains_first x xs, p)
          | inr later ↦ (contains_later x y xs ((h.exact y).0 later).0, ((h.exact y).0 later).1)
        ],
        λ (has, q). elim (contains_cases x y xs has) [
          | inl e ↦ subst (Contains (x ∷ ys)) e (contains_first x ys)
          | inr later ↦ contains_later x y ys ((h.exact y).1 (later, q))
        ],
      );
    }

    without_one : (x : X) (xs ys : List X) → ¬ P x → IsPart xs ys → IsPart (x ∷ xs) ys
    without_one x xs ys p h = record {
      rising = h.rising;
      exact = λ y. (
        λ has. (contains_later x y xs ((h.exact y).0 has).0, ((h.exact y).0 has).1),
        λ (has, q). elim (contains_cases x y xs has) [
          | inl e ↦ absurd (p (subst P (sym e) q))
          | inr later ↦ (h.exact y).1 (later, q)
        ],
      );
    }

    pub part : (xs : List X) → Rising xs → ¬ ¬ ((ys : List X) × IsPart xs ys)
    part [] nil = certain ([], record { rising = nil; exact = λ y. (λ has. absurd (nothing_in y has), λ (has, q). has) })
    part (x ∷ xs) (cons _ _ before r) =
        bind (part xs r) (λ (ys, h).
        follows (decide (P x)) (λ d. elim d [
          | inl p ↦ (x ∷ ys, with_one x xs ys before p h)
          | inr p ↦ (ys, without_one x xs ys p h)
        ]))
