-- One more element on both sides.
use Rattle.std.proofs.Common.{◌≡◌, ◌<◌, ◌≤◌, ◌+◌, ◌++◌, ◌∷◌, [], ℕ, List, length, take, get_or, sym, subst, ◌∙◌, ap}
use Rattle.std.specs.List.{AllZip}
use Rattle.std.proofs.lemmas.List.{take_more, take_all}

pub zip_push : {A B : Type 0} (R : A → B → Type 0) (xs : List A) (ys : List B) (x : A) (y : B) → AllZip R xs ys → R x y
    → AllZip R (xs ++ x ∷ []) (ys ++ y ∷ [])
zip_push R [] [] x y all is = (is, tt)
zip_push R [] (z ∷ ys) x y all is = absurd all
zip_push R (z ∷ xs) [] x y all is = absurd all
zip_push R (z ∷ xs) (w ∷ ys) x y all is = (all.0, zip_push R xs ys x y all.1 is)

-- the next element of a slice and what it gives
pub zip_more : {A B : Type 0} (R : A → B → Type 0) (xs : List A) (ys : List B) (i : ℕ) (x : A) (y : B) → AllZip R (take i xs) ys
    → i < length xs → x ≡ get_or xs i x → R x y → AllZip R (take (i + 1) xs) (ys ++ y ∷ [])
zip_more R xs ys i x y all within is holds =
    subst (λ z. AllZip R z (ys ++ y ∷ [])) (sym (take_more xs i x within ∙ ap (λ z. take i xs ++ z ∷ []) (sym is)))
    (zip_push R (take i xs) ys x y all holds)

pub zip_all : {A B : Type 0} (R : A → B → Type 0) (xs : List A) (ys : List B) (i : ℕ) → AllZip R (take i xs) ys → length xs ≤ i
    → AllZip R xs ys
zip_all R xs ys i all ended = subst (λ z. AllZip R z ys) (take_all i xs ended) all

-- one list after the other on both sides
pub zip_append : {A B : Type 0} (R : A → B → Type 0) (xs us : List A) (ys vs : List B) → AllZip R xs ys → AllZip R us vs
    → AllZip R (xs ++ us) (ys ++ vs)
zip_append R [] us [] vs all more = more
zip_append R [] us (y ∷ ys) vs all more = absurd all
zip_append R (x ∷ xs) us [] vs all more = absurd all
zip_append R (x ∷ xs) us (y ∷ ys) vs all more = (all.0, zip_append R xs us ys vs all.1 more)
