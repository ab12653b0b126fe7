use Rattle.wb_lemmas.proofs.Places.{at_once}
-- A binary search in a list, of which a prefix comes before what is sought and the rest after it.
use Rattle.std.proofs.Common.{◌≡◌, ℕ, ◌+◌, ◌<◌, ◌≤◌, List, length, Some, subst, inl, inr, arith}
use Rattle.std.specs.Prelude.{slice_get}
use Rattle.std.proofs.lemmas.Bool.{cases_eq, cases_lt}

-- what is before the low place comes before, and what stands from the high place on comes after
pub record LiesBetween {X : Type 0} (Before Beyond : X → Type 0) (xs : List X) (low high : ℕ) : Type 0 where
  pub rises : low ≤ high
  pub ends : high ≤ length xs
  pub before : (i : ℕ) (x : X) → i < low → slice_get xs i ≡ Some x → Before x
  pub beyond : (i : ℕ) (x : X) → high ≤ i → slice_get xs i ≡ Some x → Beyond x

module _ {X : Type 0} (Before Beyond : X → Type 0) (xs : List X) where
  -- what is in the middle comes before, and so does all before it
  pub halves_above : (low high middle : ℕ) (here : X) → slice_get xs middle ≡ Some here → middle < high → Before here →
      ((i : ℕ) (x : X) → i < middle → slice_get xs i ≡ Some x → Before x) → LiesBetween Before Beyond xs low high →
      LiesBetween Before Beyond xs (middle + 1) high
  halves_above low high middle here at lt first all h = record {
    rises = omega arith;
    ends = h.ends;
    before = λ i x less at'. elim (cases_eq i middle) [
      | inl same ↦ subst Before (at_once xs middle here x at (subst (λ k. slice_get xs k ≡ Some x) same at')) first
      | inr ne ↦ all i x (omega arith) at'
    ];
    beyond = h.beyond;
  }

  -- what is in the middle comes after, and so does all after it
  pub halves_below : (low high middle : ℕ) (here : X) → slice_get xs middle ≡ Some here → low ≤ middle → middle < high → Beyond here →
      ((i : ℕ) (x : X) → middle < i → slice_get xs i ≡ Some x → Beyond x) → LiesBetween Before Beyond xs low high →
      LiesBetween Before Beyond xs low middle
  halves_below low high middle here at le lt first all h = record {
    rises = le;
    ends = omega (arith, h.ends);
    before = h.before;
    beyond = λ i x past at'. elim (cases_eq i middle) [
      | inl same ↦ subst Beyond (at_once xs middle here x at (subst (λ k. slice_get xs k ≡ Some x) same at')) first
      | inr ne ↦ all i x (omega arith) at'
    ];
  }

  -- where nothing is left, each comes before or after
  pub halves_none : (low high : ℕ) → high ≤ low → LiesBetween Before Beyond xs low high → (G : Type 0) (i : ℕ) (x : X) →
      slice_get xs i ≡ Some x → (Before x → G) → (Beyond x → G) → G
  halves_none low high le h G i x at first second = elim (cases_lt i low) [
    | inl lt ↦ first (h.before i x lt at)
    | inr ge ↦ second (h.beyond i x (omega arith) at)
  ]
