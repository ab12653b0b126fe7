-- Kinds of parts at places, up to one more.
use Rattle.std.proofs.Common.{◌≡◌, ◌<◌, ◌+◌, ℕ, List, Some, subst, slice_get, arith}
use Rattle.std.proofs.Math.Decide.{dec_lt}
use Rattle.wb_base.specs.declared.symbol.Kind.{Kind}
use Rattle.wb_lemmas.proofs.Places.{at_once}

-- parts are of their kinds up to a place, and the one there is too
pub each_more : (kinds : List Kind) (places : List ℕ) (are : List Kind) (count at : ℕ) (is : Kind)
    → ((i p : ℕ) (q : Kind) → i < count → slice_get places i ≡ Some p → slice_get are i ≡ Some q → slice_get kinds p ≡ Some q)
    → slice_get places count ≡ Some at → slice_get are count ≡ Some is → slice_get kinds at ≡ Some is
    → (i p : ℕ) (q : Kind) → i < count + 1 → slice_get places i ≡ Some p → slice_get are i ≡ Some q → slice_get kinds p ≡ Some q
each_more kinds places are count at is before here there holds i p q within first second = cases (dec_lt i count) where
  last : (i < count → ⊥) → slice_get kinds p ≡ Some q
  last above =
      let same : i ≡ count = omega (arith, above, within) in
      subst (λ z. slice_get kinds z ≡ Some q) (at_once places count at p here (subst (λ z. slice_get places z ≡ Some p) same first))
      (subst (λ z. slice_get kinds at ≡ Some z) (at_once are count is q there (subst (λ z. slice_get are z ≡ Some q) same second)) holds)

  cases : Dec (i < count) → slice_get kinds p ≡ Some q
  cases (yes below) = before i p q below first second
  cases (no above) = last above
