-- Names that are gathered one element after the other.
use Rattle.std.proofs.Common.{◌≡◌, ◌<◌, ◌+◌, ◌++◌, ◌∷◌, [], ℕ, List, length, map, take, get_or, append_assoc, ap, sym, subst, ◌≤◌, ◌∙◌}
use Rattle.std.specs.Prelude.{flat_map}
use Rattle.std.proofs.lemmas.Grind.{flat_map-append}
use Rattle.std.proofs.lemmas.List.{append-nil, map-append, take_all, take_more}
use Rattle.wb_names_rows.specs.Plains.{AddsEach}

-- one element more is read
one_more : {X : Type 0} (xs : List X) (i : ℕ) (x : X) → i < length xs → x ≡ get_or xs i x → take (i + 1) xs ≡ take i xs ++ x ∷ []
one_more xs i x within same = take_more xs i x within ∙ ap (λ z. take i xs ++ z ∷ []) (sym same)

-- what was gathered, with the name of one element more
pub name_added : {X Y : Type 0} (name : X → Y) (xs : List X) (i : ℕ) (x : X) (y : Y) (old mid new : List Y)
    → mid ≡ old ++ map name (take i xs) → i < length xs → x ≡ get_or xs i x → y ≡ name x → new ≡ mid ++ y ∷ []
    → new ≡ old ++ map name (take (i + 1) xs)
name_added name xs i x y old mid new was within same named now =
    now ∙ (ap (λ z. mid ++ z ∷ []) named ∙ (ap (λ z. z ++ name x ∷ []) was ∙ (append_assoc old (map name (take i xs)) (name x ∷ [])
    ∙ ap (λ z. old ++ z) (sym (ap (map name) (one_more xs i x within same) ∙ map-append name (take i xs) (x ∷ []))))))

-- what was gathered, with the names that one element more has
pub names_added : {X Y : Type 0} (names : X → List Y) (xs : List X) (i : ℕ) (x : X) (old mid new : List Y)
    → mid ≡ old ++ flat_map names (take i xs) → i < length xs → x ≡ get_or xs i x → new ≡ mid ++ names x
    → new ≡ old ++ flat_map names (take (i + 1) xs)
names_added names xs i x old mid new was within same now =
    now ∙ (ap (λ z. z ++ names x) was ∙ (append_assoc old (flat_map names (take i xs)) (names x)
    ∙ ap (λ z. old ++ z) (sym (ap (flat_map names) (one_more xs i x within same)
    ∙ (flat_map-append names (take i xs) (x ∷ []) ∙ ap (λ z. flat_map names (take i xs) ++ z) (append-nil (names x)))))))

-- all elements are read
pub each_all : {A B : Type 0} (R : A → B → Type 0) (xs : List A) (i : ℕ) (old new : List B) → AddsEach R (take i xs) old new
    → length xs ≤ i → AddsEach R xs old new
each_all R xs i old new adds ended = subst (λ z. AddsEach R z old new) (take_all i xs ended) adds
