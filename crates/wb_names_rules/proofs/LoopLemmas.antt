-- The steps of loops that test each element.
use Rattle.std.proofs.Common.{◌≡◌, ◌<◌, ◌≤◌, ◌+◌, ◌∷◌, ◌++◌, [], ℕ, List, All, length, take, get_or, sym, ap, subst, ◌∙◌}
use Rattle.std.proofs.lemmas.List.{take_more, take_all}
use Rattle.std.proofs.lemmas.List.Elements.{All-push}

-- what holds of those before a place and of the one there holds of one more
pub taken_more : {X : Type 0} (P : X → Type 0) (xs : List X) (i : ℕ) (x : X) → All P (take i xs) → i < length xs → x ≡ get_or xs i x → P x
    → All P (take (i + 1) xs)
taken_more P xs i x all within is holds =
    subst (All P) (sym (take_more xs i x within ∙ ap (λ z. take i xs ++ z ∷ []) (sym is))) (All-push P (take i xs) x all holds)

-- at the end all hold
pub taken_all : {X : Type 0} (P : X → Type 0) (xs : List X) (i : ℕ) → All P (take i xs) → length xs ≤ i → All P xs
taken_all P xs i all ended = subst (All P) (take_all i xs ended) all
