-- A text of the set has no fault, and others have one first fault.
use Rattle.std.proofs.Common.{◌≡◌, ◌<◌, ◌≤◌, ◌+◌, ◌⊎◌, ℕ, List, [], ◌∷◌}
use Rattle.std.proofs.Common.{◌++◌, length, length-append, refl, sym, ap, ◌∙◌, subst, inl, inr, arith}
use Rattle.std.proofs.lemmas.Bool.{cases_lt}
use Rattle.wb_lemmas.proofs.Parts.{append_assoc}
use Rattle.wb_text_parts.specs.Faults.{CanGoOn, IsFaultAt, IsFirstFault, IsStuck}
use Rattle.wb_text_parts.proofs.StopLemmas.{append_cases, append_none}

-- the place of a fault, counted from the end
pub fault_place : {Set : List ℕ → Type 0} (text rest : List ℕ) (at : ℕ) → length text ≡ at + length rest → IsFaultAt Set text rest →
    IsFirstFault Set text at
fault_place text rest at long fault = record {
  front = fault.front;
  rest = rest;
  split = fault.split;
  place = (let parts = ap length fault.split in let sum = length-append fault.front rest in omega (arith, long, parts, sum));
  before = fault.before;
  stuck = fault.stuck;
}

-- what is left at a fault isn't longer than the text
pub fault_within : {Set : List ℕ → Type 0} (text rest : List ℕ) → IsFaultAt Set text rest → length rest ≤ length text
fault_within text rest fault =
    let parts = ap length fault.split in let sum = length-append fault.front rest in omega (arith, parts, sum)

module _ (Set : List ℕ → Type 0) where
  -- no text of the set is stuck
  stuck_never : (front rest : List ℕ) → Set (front ++ rest) → IsStuck Set front rest → ⊥
  stuck_never front [] t stuck = stuck (subst Set (append_none front) t)
  stuck_never front (b ∷ rest) t stuck = stuck (rest, subst Set (sym (append_assoc front (b ∷ []) rest)) t)

  pub no_fault : (text : List ℕ) (at : ℕ) → Set text → ¬ IsFirstFault Set text at
  no_fault text at t fault = stuck_never fault.front fault.rest (subst Set fault.split t) fault.stuck

  -- a shorter front isn't stuck where a longer one can go on
  earlier_goes_on : (front rest longer after m : List ℕ) (b : ℕ) → longer ≡ front ++ b ∷ m → rest ≡ b ∷ (m ++ after) →
      CanGoOn Set longer → IsStuck Set front rest → ⊥
  earlier_goes_on front rest longer after m b is same (more, t) stuck =
      let stuck_at : IsStuck Set front (b ∷ (m ++ after)) = subst (IsStuck Set front) same stuck in
      stuck_at (
        m ++ more,
        subst Set (ap (λ z. z ++ more) is ∙ (append_assoc front (b ∷ m) more ∙ sym (append_assoc front (b ∷ []) (m ++ more)))) t,
      )

  below : (text : List ℕ) (m n : ℕ) → IsFirstFault Set text m → IsFirstFault Set text n → m < n → ⊥
  below text m n f g lt =
      elim (append_cases f.front f.rest g.front g.rest (sym f.split ∙ g.split)) [
        | inl (x, is, other) ↦ shorter x is
        | inr (x, is, other) ↦ longer x is other
      ]
    where
      shorter : (x : List ℕ) → f.front ≡ g.front ++ x → ⊥
      shorter x is =
          let long = ap length is in
          let parts = length-append g.front x in
          let p = f.place in
          let q = g.place in
          omega (arith, long, parts, p, q, lt)

      longer : (x : List ℕ) → g.front ≡ f.front ++ x → f.rest ≡ x ++ g.rest → ⊥
      longer [] is other =
          let long = ap length is in
          let parts = length-append f.front [] in
          let p = f.place in
          let q = g.place in
          omega (arith, long, parts, p, q, lt)
      longer (b ∷ x) is other = earlier_goes_on f.front f.rest g.front g.rest x b is other g.before f.stuck

  pub one_fault : (text : List ℕ) (m n : ℕ) → IsFirstFault Set text m → IsFirstFault Set text n → m ≡ n
  one_fault text m n f g = elim (cases_lt m n) [
    | inl lt ↦ absurd (below text m n f g lt)
    | inr le ↦ elim (cases_lt n m) [ inl lt ↦ absurd (below text n m g f lt) | inr le' ↦ omega (arith, le, le') ]
  ]
