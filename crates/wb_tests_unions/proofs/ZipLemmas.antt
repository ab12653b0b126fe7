-- Relations of two lists by way of one between them.
use Rattle.std.proofs.Common.{◌∷◌, [], List}
use Rattle.std.specs.List.{AllZip}

-- by way of a list between
pub zip_through : {A B C : Type 0} (R : A → B → Type 0) (S : B → C → Type 0) (T : A → C → Type 0)
    → ((x : A) (y : B) (z : C) → R x y → S y z → T x z) → (xs : List A) (ys : List B) (zs : List C)
    → AllZip R xs ys → AllZip S ys zs → AllZip T xs zs
zip_through R S T through [] [] [] first second = tt
zip_through R S T through [] [] (z ∷ zs) first second = absurd second
zip_through R S T through [] (y ∷ ys) zs first second = absurd first
zip_through R S T through (x ∷ xs) [] zs first second = absurd first
zip_through R S T through (x ∷ xs) (y ∷ ys) [] first second = absurd second
zip_through R S T through (x ∷ xs) (y ∷ ys) (z ∷ zs) first second =
    (through x y z first.0 second.0, zip_through R S T through xs ys zs first.1 second.1)
