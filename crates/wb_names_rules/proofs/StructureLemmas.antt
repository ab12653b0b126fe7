-- What comes with a declaration or a usage, by how items and bases are listed.
use Rattle.std.proofs.Common.{◌≡◌, ◌∷◌, ◌++◌, [], List, Contains, map, sym, subst, inl, inr}
use Rattle.std.specs.List.{flat_map}
use Rattle.wb_lemmas.proofs.Members.{nothing_in, contains_cases, contains_first, contains_later, contains_append, append_contains_left}
use Rattle.wb_lemmas.proofs.Members.{append_contains_right}

-- what is in a list of images is the image of an element
pub map_contains : {X Y : Type 0} (f : X → Y) (xs : List X) (y : Y) → Contains (map f xs) y → (x : X) × Contains xs x × (f x ≡ y)
map_contains {X} {Y} f [] y has = absurd (nothing_in y has)
map_contains {X} {Y} f (x ∷ xs) y has = elim (contains_cases (f x) y (map f xs) has) [
  | inl e ↦ (x, contains_first x xs, e)
  | inr more ↦ let (z, there, e) = map_contains f xs y more in (z, contains_later x z xs there, e)
]

-- the image of an element is there
pub contains_map : {X Y : Type 0} (f : X → Y) (xs : List X) (x : X) → Contains xs x → Contains (map f xs) (f x)
contains_map f [] x has = absurd (nothing_in x has)
contains_map f (z ∷ xs) x has = elim (contains_cases z x xs has) [
  | inl e ↦ subst (λ (w : _). Contains (f z ∷ map f xs) (f w)) e (contains_first (f z) (map f xs))
  | inr more ↦ contains_later (f z) (f x) (map f xs) (contains_map f xs x more)
]

-- what is in joined lists is in that of an element
pub flat_contains : {X Y : Type 0} (f : X → List Y) (xs : List X) (y : Y) → Contains (flat_map f xs) y → (x : X) × Contains xs x × Contains (f x) y
flat_contains f [] y has = absurd (nothing_in y has)
flat_contains f (x ∷ xs) y has = elim (contains_append (f x) (flat_map f xs) y has) [
  | inl here ↦ (x, contains_first x xs, here)
  | inr more ↦ let (z, there, at) = flat_contains f xs y more in (z, contains_later x z xs there, at)
]

-- what is in the list of an element is in the joined ones
pub contains_flat : {X Y : Type 0} (f : X → List Y) (xs : List X) (x : X) (y : Y) → Contains xs x → Contains (f x) y → Contains (flat_map f xs) y
contains_flat f [] x y has there = absurd (nothing_in x has)
contains_flat f (z ∷ xs) x y has there = elim (contains_cases z x xs has) [
  | inl e ↦ append_contains_left (f z) (flat_map f xs) y (subst (λ (w : _). Contains (f w) y) (sym e) there)
  | inr more ↦ append_contains_right (f z) (flat_map f xs) y (contains_flat f xs x y more there)
]

-- a fact of all elements of two joined lists
pub each_append : {X : Type 0} (P : X → Type 0) (xs ys : List X) → ((x : X) → Contains xs x → P x) → ((x : X) → Contains ys x → P x) → (x : X)
    → Contains (xs ++ ys) x → P x
each_append P xs ys left right x has = elim (contains_append xs ys x has) [ inl a ↦ left x a | inr b ↦ right x b ]

-- of images
pub each_map : {X Y : Type 0} (P : Y → Type 0) (f : X → Y) (xs : List X) → ((x : X) → Contains xs x → P (f x)) → (y : Y) → Contains (map f xs) y → P y
each_map P f xs each y has = let (x, there, e) = map_contains f xs y has in subst P e (each x there)

-- of joined lists of elements
pub each_flat : {X Y : Type 0} (P : Y → Type 0) (f : X → List Y) (xs : List X) → ((x : X) → Contains xs x → (y : Y) → Contains (f x) y → P y) → (y : Y)
    → Contains (flat_map f xs) y → P y
each_flat P f xs each y has = let (x, there, at) = flat_contains f xs y has in each x there y at

-- of one element and others
pub each_cons : {X : Type 0} (P : X → Type 0) (x : X) (xs : List X) → P x → ((y : X) → Contains xs y → P y) → (y : X) → Contains (x ∷ xs) y → P y
each_cons P x xs here more y has = elim (contains_cases x y xs has) [ inl e ↦ subst P e here | inr z ↦ more y z ]

-- of none
pub each_none : {X : Type 0} (P : X → Type 0) (x : X) → Contains [] x → P x
each_none P x has = absurd (nothing_in x has)
