-- What an insertion into a set of numbers, and a look-up there, say of its list.
use Rattle.std.proofs.Common.{◌≡◌, ℕ, Bool, true, not, List, [], ◌∷◌, ◌++◌, Contains, sym, ◌∙◌, ap, subst, inl, inr, if◌then◌else◌}
use Rattle.std.specs.Prelude.{nat_eq, ◌↔◌}
use Rattle.std.specs.List.{list_any}
use Rattle.std.proofs.lemmas.Bool.{cases_Bool, true≢false}
use Rattle.std.proofs.Common.{eqb-true}
use Rattle.std.proofs.lemmas.Cmp.{nat_eq_equiv}
use Rattle.std.proofs.lemmas.Map.Views.{Contains-from_any, list_any-from_Contains}
use Rattle.wb_automata.specs.Inner.Pairs.{IsInserted}

equal : (x y : ℕ) → nat_eq x y ≡ true → x ≡ y
equal x y e = eqb-true x y e

pub has_is : (keys : List ℕ) (number : ℕ) (r : Bool) → r ≡ list_any (nat_eq number) keys → (r ≡ true) ↔ Contains keys number
has_is keys number r e = (
  λ on. Contains-from_any equal number keys (sym e ∙ on),
  λ has. e ∙ list_any-from_Contains nat_eq_equiv number keys has,
)

pub inserted : (keys new : List ℕ) (number : ℕ) (r : Bool) → r ≡ not (list_any (nat_eq number) keys)
    → new ≡ (if list_any (nat_eq number) keys then keys else keys ++ number ∷ []) → IsInserted keys number new r
inserted keys new number r e f = elim (cases_Bool (list_any (nat_eq number) keys)) [
  | inl on ↦ subst (IsInserted keys number new) (sym (e ∙ ap not on)) (
    Contains-from_any equal number keys on,
    f ∙ ap (λ b. if b then keys else keys ++ number ∷ []) on,
  )
  | inr off ↦ subst (IsInserted keys number new) (sym (e ∙ ap not off)) (
    λ has. true≢false (sym (list_any-from_Contains nat_eq_equiv number keys has) ∙ off),
    f ∙ ap (λ b. if b then keys else keys ++ number ∷ []) off,
  )
]
