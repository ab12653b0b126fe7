-- Where the elements of a list are in another that has them all.
use Rattle.std.proofs.Common.{◌≡◌, ◌<◌, ◌≤◌, ◌+◌, ◌-◌, ◌∙◌, ℕ, List, Some, Contains, length, slice_get, refl, ap, inl, inr, arith}
use Rattle.std.proofs.lemmas.Bool.{cases_lt}
use Rattle.std.proofs.lemmas.Option.{slice_get_within}
use Rattle.wb_base.specs.Different.{Differ}
use Rattle.wb_lemmas.proofs.Members.{place_of}
use Rattle.wb_lemmas.proofs.Places.{at_once, at_within}

-- where what is at a place is in the other list, by what the function makes of it; what is after the one list is after the other too, as
-- far as the second function says
pub record Spot {X : Type 0} (f : X → X) (past : ℕ → ℕ) (xs ys : List X) (p : ℕ) : Type 0 where
  pub place : ℕ
  pub element : (x : X) → slice_get xs p ≡ Some x → slice_get ys place ≡ Some (f x)
  pub behind : length xs ≤ p → place ≡ length ys + past (p - length xs)

-- each place has one
pub spot : {X : Type 0} (f : X → X) (past : ℕ → ℕ) (xs ys : List X) →
    ((i : ℕ) (x : X) → slice_get xs i ≡ Some x → Contains ys (f x)) → (p : ℕ) → Spot f past xs ys p
spot {X} f past xs ys every p = elim (cases_lt p (length xs)) [
  | inl less ↦ within less (at_within xs p less)
  | inr over ↦ after over
]
  where
    within : p < length xs → (x : X) × (slice_get xs p ≡ Some x) → Spot f past xs ys p
    within less (x, at) =
        let (q, q_at) = place_of ys (f x) (every p x at) in
        record {
          place = q;
          element = λ y y_at. q_at ∙ ap (λ z. Some (f z)) (at_once xs p x y at y_at);
          behind = λ over. absurd (omega (arith, less, over));
        }

    after : length xs ≤ p → Spot f past xs ys p
    after over = record {
      place = length ys + past (p - length xs);
      element = λ x at. let less = slice_get_within xs p x at in absurd (omega (arith, less, over));
      behind = λ h. refl;
    }

-- there and back, where nothing is at two places
pub spot_back : {X : Type 0} (f h : X → X) (past back_past : ℕ → ℕ) (xs ys : List X) (there : (p : ℕ) → Spot f past xs ys p)
    (back : (p : ℕ) → Spot h back_past ys xs p) → ((x : X) → h (f x) ≡ x) → ((j : ℕ) → back_past (past j) ≡ j) → Differ xs → (p : ℕ) →
    (back (there p).place).place ≡ p
spot_back {X} f h past back_past xs ys there back undone returns differ p =
    elim (cases_lt p (length xs)) [ inl less ↦ within (at_within xs p less) | inr over ↦ after over ]
  where
    within : (x : X) × (slice_get xs p ≡ Some x) → (back (there p).place).place ≡ p
    within (x, at) =
        differ x (back (there p).place).place p
        ((back (there p).place).element (f x) ((there p).element x at) ∙ ap Some (undone x)) at

    after : length xs ≤ p → (back (there p).place).place ≡ p
    after over =
        let first = (there p).behind over in
        let second = (back (there p).place).behind (omega (arith, first)) in
        let far : (there p).place - length ys ≡ past (p - length xs) = omega (arith, first) in
        let home = ap back_past far ∙ returns (p - length xs) in
        omega (arith, second, home, over)
