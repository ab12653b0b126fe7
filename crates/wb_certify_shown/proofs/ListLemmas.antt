-- A list that a loop gathers, one name after the other, and the name at a place of a list.
use Rattle.std.proofs.Common.{◌≡◌, ◌<◌, ◌+◌, ◌++◌, ◌∷◌, [], ℕ, List, Some, None, true, false, ltb, map, take, length, get_or, slice_get, ap}
use Rattle.std.proofs.Common.{sym, ◌∙◌}
use Rattle.std.proofs.lemmas.List.{take_more, map-append}
use Rattle.std.proofs.lemmas.Bool.{ltb-true, ltb-false}
use Rattle.std.proofs.lemmas.Option.{slice_get-get_or, slice_get_past}
use Rattle.wb_names_theory.specs.Declares.{name_in}

-- with what is made of one element more it is that of one more
pub mapped_more : {A B : Type 0} (f : A → B) (xs : List A) (i : ℕ) (d : A) (y : B) (mid new : List B) → mid ≡ map f (take i xs)
    → i < length xs → y ≡ f (get_or xs i d) → new ≡ mid ++ y ∷ [] → new ≡ map f (take (i + 1) xs)
mapped_more f xs i d y mid new so_far within same adds =
    adds ∙ (ap (λ z. mid ++ z ∷ []) same ∙ (ap (λ z. z ++ f (get_or xs i d) ∷ []) so_far
    ∙ (sym (map-append f (take i xs) (get_or xs i d ∷ [])) ∙ ap (map f) (sym (take_more xs i d within)))))

-- the element at a place of what is the same list, and none past its end
pub at_place : {A : Type 0} (xs same : List A) (n : ℕ) (x : A) → true ≡ ltb n (length same) → x ≡ get_or same n x → same ≡ xs
    → slice_get xs n ≡ Some x
at_place xs same n x within is e =
    ap (λ z. slice_get z n) (sym e) ∙ (slice_get-get_or same n x (ltb-true n (length same) (sym within)) ∙ ap Some (sym is))

pub past_end : {A : Type 0} (xs same : List A) (n : ℕ) → false ≡ ltb n (length same) → same ≡ xs → slice_get xs n ≡ None
past_end xs same n past e = ap (λ z. slice_get z n) (sym e) ∙ slice_get_past same n (ltb-false n (length same) (sym past))

-- its name, and the empty one
pub name_at : {A : Type 0} (name : A → List ℕ) (xs same : List A) (n : ℕ) (x : A) → true ≡ ltb n (length same) → x ≡ get_or same n x
    → same ≡ xs → name x ≡ name_in name (slice_get xs n)
name_at name xs same n x within is e = ap (λ z. name_in name z) (sym (at_place xs same n x within is e))

pub no_name_past : {A : Type 0} (name : A → List ℕ) (xs same : List A) (n : ℕ) → false ≡ ltb n (length same) → same ≡ xs
    → [] ≡ name_in name (slice_get xs n)
no_name_past name xs same n past e = ap (λ z. name_in name z) (sym (past_end xs same n past e))
