-- The name at a place of a list.
use Rattle.std.proofs.Common.{◌≡◌, [], ℕ, List, Some, None, true, false, ltb, length, get_or, slice_get, ap}
use Rattle.std.proofs.Common.{sym, ◌∙◌}
use Rattle.std.proofs.lemmas.Bool.{ltb-true, ltb-false}
use Rattle.std.proofs.lemmas.Option.{slice_get-get_or, slice_get_past}
use Rattle.wb_names_theory.specs.Declares.{name_in}

-- the element at a place of what is the same list, and none past its end
pub at_place : {A : Type 0} (xs same : List A) (n : ℕ) (x : A) → true ≡ ltb n (length same) → x ≡ get_or same n x → same ≡ xs
    → slice_get xs n ≡ Some x
at_place xs same n x within is e =
    ap (λ z. slice_get z n) (sym e) ∙ (slice_get-get_or same n x (ltb-true n (length same) (sym within)) ∙ ap Some (sym is))

pub past_end : {A : Type 0} (xs same : List A) (n : ℕ) → false ≡ ltb n (length same) → same ≡ xs → slice_get xs n ≡ None
past_end xs same n past e = ap (λ z. slice_get z n) (sym e) ∙ slice_get_past same n (ltb-false n (length same) (sym past))

-- its name, and the empty one
pub name_at : {A : Type 0} (name : A → List ℕ) (xs same : List A) (n : ℕ) (x : A) → true ≡ ltb n (length same) → x ≡ get_or same n x
    → same ≡ xs → name x ≡ name_in name (slice_get xs n)
name_at name xs same n x within is e = ap (λ z. name_in name z) (sym (at_place xs same n x within is e))

pub no_name_past : {A : Type 0} (name : A → List ℕ) (xs same : List A) (n : ℕ) → false ≡ ltb n (length same) → same ≡ xs
    → [] ≡ name_in name (slice_get xs n)
no_name_past name xs same n past e = ap (λ z. name_in name z) (sym (past_end xs same n past e))
