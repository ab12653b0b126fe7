-- What is read at its number.
use Rattle.std.proofs.Common.{◌≡◌, ◌∙◌, ℕ, List, Some, true, ltb, length, get_or, slice_get, sym, ap, subst}
use Rattle.std.proofs.lemmas.Bool.{ltb-true}
use Rattle.std.proofs.lemmas.Option.{slice_get-get_or}
use Rattle.wb_flow_theory.specs.Modular.{IsProduction}
use Rattle.wb_syntax_resolved.specs.declared.attribution.AttributionParts.{AttributionParts}
use Rattle.wb_syntax_resolved.specs.declared.production.Production.{Production}

-- the element at a place of a list
pub at_place : {A : Type 0} (xs : List A) (n : ℕ) (x : A) → true ≡ ltb n (length xs) → x ≡ get_or xs n x → slice_get xs n ≡ Some x
at_place xs n x within is = slice_get-get_or xs n x (ltb-true n (length xs) (sym within)) ∙ ap Some (sym is)

-- a production
pub there_at : (a : AttributionParts) (number : ℕ) (p : Production) (rows : List Production) → rows ≡ a.productions
    → true ≡ ltb number (length rows) → p ≡ get_or rows number p → IsProduction a number p
there_at a number p rows same within is =
    subst (λ (z : List Production). slice_get z number ≡ Some p) same (at_place rows number p within is)
