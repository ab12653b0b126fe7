-- Kinds of parts at places, and that a kind is exactly what is found.
use Rattle.std.proofs.Common.{◌≡◌, ◌<◌, ◌+◌, ◌↔◌, ℕ, Bool, true, false, List, Option, Some, None, sym, ap, ◌∙◌, subst, slice_get}
use Rattle.std.proofs.Common.{arith}
use Rattle.std.proofs.Math.Decide.{dec_lt}
use Rattle.wb_base.specs.declared.symbol.Kind.{Kind}
use Rattle.wb_lemmas.proofs.Places.{at_once}
use Rattle.wb_types.specs.Inner.Nodes.{IsAt}

-- nothing is found where nothing is
pub none_exact : (found : Option Kind) (P : Kind → Type 0) → found ≡ None → ((is : Kind) → P is → ⊥) → (is : Kind)
    → (found ≡ Some is) ↔ P is
none_exact found P none never is = (λ some. absurd (let e : None ≡ Some is = sym none ∙ some in cc), λ holds. absurd (never is holds))

-- one kind is found where one is
pub some_exact : (found : Kind) (P : Kind → Type 0) → P found → ((is : Kind) → P is → found ≡ is) → (is : Kind)
    → (Some found ≡ Some is) ↔ P is
some_exact found P holds one is = (λ some. let e : found ≡ is = cc some in subst P e holds, λ other. ap Some (one is other))

-- nothing is both false and true
pub never_both : (b : Bool) → b ≡ false → b ≡ true → ⊥
never_both true e f = cc e
never_both false e f = cc f

-- parts are of their kinds up to a place, and the one there is too
pub each_more : (kinds : List (Option Kind)) (places : List ℕ) (are : List Kind) (count at : ℕ) (is : Kind)
    → ((i p : ℕ) (q : Kind) → i < count → slice_get places i ≡ Some p → slice_get are i ≡ Some q → IsAt kinds p q)
    → slice_get places count ≡ Some at → slice_get are count ≡ Some is → IsAt kinds at is
    → (i p : ℕ) (q : Kind) → i < count + 1 → slice_get places i ≡ Some p → slice_get are i ≡ Some q → IsAt kinds p q
each_more kinds places are count at is before here there holds i p q within first second = cases (dec_lt i count) where
  last : (i < count → ⊥) → IsAt kinds p q
  last above =
      let same : i ≡ count = omega (arith, above, within) in
      subst (λ z. IsAt kinds z q) (at_once places count at p here (subst (λ z. slice_get places z ≡ Some p) same first))
      (subst (IsAt kinds at) (at_once are count is q there (subst (λ z. slice_get are z ≡ Some q) same second)) holds)

  cases : Dec (i < count) → IsAt kinds p q
  cases (yes below) = before i p q below first second
  cases (no above) = last above
