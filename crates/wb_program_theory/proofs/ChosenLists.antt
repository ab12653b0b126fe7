-- A list of so many things, where there is one for each number.
use Rattle.std.proofs.Common.{◌<◌, ℕ, zero, suc, [], ◌∷◌, refl, ap, arith}
use Rattle.std.specs.Prelude.{slice_index_or}
use Rattle.wb_lemmas.proofs.NotNot.{Chosen}

one_more : {X : Type 0} (n : ℕ) (d : X) (R : ℕ → X → Type 0) (x : X) → R zero x → Chosen n d (λ i. R (suc i)) → Chosen (suc n) d R
one_more {X} n d R x is c = record { list = x ∷ c.list; len = ap suc c.len; each = λ i lt. each i lt } where
  each : (i : ℕ) → i < suc n → R i (slice_index_or (x ∷ c.list) i d)
  each zero lt = is
  each (suc i) lt = c.each i (omega (arith, lt))

pub listed : {X : Type 0} (n : ℕ) (d : X) (R : ℕ → X → Type 0) → ((i : ℕ) → i < n → (x : X) × R i x) → Chosen n d R
listed zero d R each = record { list = []; len = refl; each = λ i lt. absurd (omega (arith, lt)) }
listed (suc n) d R each =
    let first = each zero (omega arith) in
    one_more n d R first.0 first.1 (listed n d (λ i. R (suc i)) (λ i lt. each (suc i) (omega (arith, lt))))
