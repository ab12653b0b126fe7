-- What one element more of a slice adds to a list.
use Rattle.std.proofs.Common.{◌≡◌, ◌<◌, ◌≤◌, ◌+◌, ◌++◌, ◌∷◌, [], ℕ, List, map, length, take, get_or, slice_get, append_assoc, ap, sym, ◌∙◌}
use Rattle.std.proofs.Common.{Some, true, false, ltb}
use Rattle.std.specs.List.{flat_map}
use Rattle.std.proofs.lemmas.List.{take_more, take_all, flat_map_more, map-append}
use Rattle.std.proofs.lemmas.Bool.{ltb-true, ltb-false}
use Rattle.std.proofs.lemmas.Option.{slice_get-get_or, slice_get_past}
use Rattle.wb_names_theory.specs.Declares.{name_in}

-- the elements so far, with the next one
next : {A : Type 0} (xs : List A) (i : ℕ) (x : A) → i < length xs → x ≡ get_or xs i x → take i xs ++ x ∷ [] ≡ take (i + 1) xs
next xs i x within is = sym (take_more xs i x within ∙ ap (λ z. take i xs ++ z ∷ []) (sym is))

-- each element adds a list
pub flat_map_next : {A B : Type 0} (f : A → List B) (xs : List A) (i : ℕ) (x : A) (old mid new : List B)
    → mid ≡ old ++ flat_map f (take i xs) → i < length xs → x ≡ get_or xs i x → new ≡ mid ++ f x
    → new ≡ old ++ flat_map f (take (i + 1) xs)
flat_map_next f xs i x old mid new so_far within is adds =
    adds ∙ (ap (λ z. z ++ f x) so_far ∙ (flat_map_more f old (take i xs) x ∙ ap (λ z. old ++ flat_map f z) (next xs i x within is)))

pub flat_map_all : {A B : Type 0} (f : A → List B) (xs : List A) (i : ℕ) (old new : List B) → new ≡ old ++ flat_map f (take i xs)
    → length xs ≤ i → new ≡ old ++ flat_map f xs
flat_map_all f xs i old new so_far ended = so_far ∙ ap (λ z. old ++ flat_map f z) (take_all i xs ended)

-- one list is added, and then another
pub both_added : {A : Type 0} (xs ys zs : List A) (old mid new : List A) → mid ≡ old ++ xs → new ≡ mid ++ ys → ys ≡ zs
    → new ≡ old ++ (xs ++ zs)
both_added xs ys zs old mid new first second same =
    second ∙ (ap (λ z. z ++ ys) first ∙ (append_assoc old xs ys ∙ ap (λ z. old ++ (xs ++ z)) same))

-- each element adds one
pub map_next : {A B : Type 0} (f : A → B) (xs : List A) (i : ℕ) (x : A) (old mid new : List B)
    → mid ≡ old ++ map f (take i xs) → i < length xs → x ≡ get_or xs i x → new ≡ mid ++ f x ∷ []
    → new ≡ old ++ map f (take (i + 1) xs)
map_next f xs i x old mid new so_far within is adds =
    adds ∙ (ap (λ z. z ++ f x ∷ []) so_far ∙ (append_assoc old (map f (take i xs)) (f x ∷ [])
    ∙ ap (λ z. old ++ z) (sym (map-append f (take i xs) (x ∷ [])) ∙ ap (map f) (next xs i x within is))))

pub map_all : {A B : Type 0} (f : A → B) (xs : List A) (i : ℕ) (old new : List B) → new ≡ old ++ map f (take i xs)
    → length xs ≤ i → new ≡ old ++ map f xs
map_all f xs i old new so_far ended = so_far ∙ ap (λ z. old ++ map f z) (take_all i xs ended)

-- the name of an element by its place, and none past the end
pub name_at : {A : Type 0} (name : A → List ℕ) (xs : List A) (n : ℕ) (x : A) → true ≡ ltb n (length xs) → x ≡ get_or xs n x
    → name x ≡ name_in name (slice_get xs n)
name_at name xs n x within is =
    sym (ap (λ z. name_in name z) (slice_get-get_or xs n x (ltb-true n (length xs) (sym within)) ∙ ap Some (sym is)))

pub no_name_past : {A : Type 0} (name : A → List ℕ) (xs : List A) (n : ℕ) → false ≡ ltb n (length xs) → [] ≡ name_in name (slice_get xs n)
no_name_past name xs n past = sym (ap (λ z. name_in name z) (slice_get_past xs n (ltb-false n (length xs) (sym past))))
