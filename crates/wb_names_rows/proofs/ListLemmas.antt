-- What one element more of a slice adds to a list.
use Rattle.std.proofs.Common.{◌≡◌, ◌<◌, ◌≤◌, ◌+◌, ◌++◌, ◌∷◌, [], ℕ, List, map, length, take, get_or, append_assoc, ap, sym, ◌∙◌}
use Rattle.std.specs.List.{flat_map}
use Rattle.std.proofs.lemmas.List.{take_more, take_all, flat_map_more, map-append}

-- the elements so far, with the next one
pub take_next : {A : Type 0} (xs : List A) (i : ℕ) (x : A) → i < length xs → x ≡ get_or xs i x → take i xs ++ x ∷ [] ≡ take (i + 1) xs
take_next xs i x within is = sym (take_more xs i x within ∙ ap (λ z. take i xs ++ z ∷ []) (sym is))

-- each element adds a list
pub flat_map_next : {A B : Type 0} (f : A → List B) (xs : List A) (i : ℕ) (x : A) (old mid new : List B)
    → mid ≡ old ++ flat_map f (take i xs) → i < length xs → x ≡ get_or xs i x → new ≡ mid ++ f x
    → new ≡ old ++ flat_map f (take (i + 1) xs)
flat_map_next f xs i x old mid new so_far within is adds =
    adds ∙ (ap (λ z. z ++ f x) so_far ∙ (flat_map_more f old (take i xs) x ∙ ap (λ z. old ++ flat_map f z) (take_next xs i x within is)))

pub flat_map_all : {A B : Type 0} (f : A → List B) (xs : List A) (i : ℕ) (old new : List B) → new ≡ old ++ flat_map f (take i xs)
    → length xs ≤ i → new ≡ old ++ flat_map f xs
flat_map_all f xs i old new so_far ended = so_far ∙ ap (λ z. old ++ flat_map f z) (take_all i xs ended)

-- each element adds one
pub map_next : {A B : Type 0} (f : A → B) (xs : List A) (i : ℕ) (x : A) (y : B) (old mid new : List B)
    → mid ≡ old ++ map f (take i xs) → i < length xs → x ≡ get_or xs i x → y ≡ f x → new ≡ mid ++ y ∷ []
    → new ≡ old ++ map f (take (i + 1) xs)
map_next f xs i x y old mid new so_far within is same adds =
    adds ∙ (ap (λ z. mid ++ z ∷ []) same ∙ (ap (λ z. z ++ f x ∷ []) so_far ∙ (append_assoc old (map f (take i xs)) (f x ∷ [])
    ∙ ap (λ z. old ++ z) (sym (map-append f (take i xs) (x ∷ [])) ∙ ap (map f) (take_next xs i x within is)))))

pub map_all : {A B : Type 0} (f : A → B) (xs : List A) (i : ℕ) (old new : List B) → new ≡ old ++ map f (take i xs)
    → length xs ≤ i → new ≡ old ++ map f xs
map_all f xs i old new so_far ended = so_far ∙ ap (λ z. old ++ map f z) (take_all i xs ended)
