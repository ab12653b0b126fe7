-- Grouped rows and their elements, and images of lists.
use Rattle.std.proofs.Common.{◌≡◌, ◌<◌, ◌++◌, ◌∷◌, ◌⊎◌, inl, inr, [], ℕ, List, Option, Some, None, All, Contains, map, length}
use Rattle.std.proofs.Common.{slice_get, ap, sym, refl, subst, ◌∙◌}
use Rattle.std.specs.Prelude.{IsSome, filter_map, flat_map, option_map}
use Rattle.std.specs.List.{AllZip, cons_option}
use Rattle.std.proofs.lemmas.List.{map-append}
use Rattle.std.proofs.lemmas.List.Elements.{All-head, All-tail}
use Rattle.std.proofs.lemmas.Option.{slice_get-map}
use Rattle.wb_lemmas.proofs.Elements.{all_from_places}
use Rattle.wb_lemmas.proofs.Members.{contains_at, contains_first, contains_later, nothing_in}
use Rattle.wb_lemmas.proofs.Places.{append_keeps}
use Rattle.wb_lemmas.proofs.Zips.{beside}
use Rattle.wb_names_numbers_theory.specs.Sources.{sources, AreGrouped}
use Rattle.wb_names_numbers_theory.proofs.Grouped.{leads_below}
use Rattle.wb_names_numbers_theory.proofs.OwnDeclared.{flat_map_contains}
use Rattle.wb_names_numbers_theory.proofs.RowLemmas.{contains_split}
use Rattle.wb_names_numbers_theory.proofs.SourceLemmas.{one_split}

-- images of images
pub map_fuse : {X Y Z : Type 0} (g : Y → Z) (f : X → Y) (xs : List X) → map g (map f xs) ≡ map (λ (x : X). g (f x)) xs
map_fuse g f [] = refl
map_fuse g f (x ∷ xs) = ap (λ z. g (f x) ∷ z) (map_fuse g f xs)

pub map_sources : {A B Z : Type 0} (f : A ⊎ B → Z) (xs : List A) (us : List B)
    → map f (sources xs us) ≡ map (λ (x : A). f (inl x)) xs ++ map (λ (u : B). f (inr u)) us
map_sources {A} {B} f xs us =
    let left : A → A ⊎ B = inl in
    let right : B → A ⊎ B = inr in
    map-append f (map left xs) (map right us)
    ∙ (ap (λ z. z ++ map f (map right us)) (map_fuse f left xs) ∙ ap (λ z. map (λ (x : A). f (left x)) xs ++ z) (map_fuse f right us))

-- an image at a place
image_of : {X Y : Type 0} (f : X → Y) (o : Option X) (y : Y) → option_map f o ≡ Some y → (x : X) × (o ≡ Some x) × (f x ≡ y)
image_of f None y e = absurd (cc e)
image_of f (Some x) y e = let is : f x ≡ y = cc in (x, refl, is)

pub image_at : {X Y : Type 0} (f : X → Y) (xs : List X) (k : ℕ) (y : Y) → slice_get (map f xs) k ≡ Some y
    → (x : X) × (slice_get xs k ≡ Some x) × (f x ≡ y)
image_at f xs k y at = image_of f (slice_get xs k) y (sym (slice_get-map f xs k) ∙ at)

-- what was there is first among the sources
pub before_at : {A B : Type 0} (xs : List A) (us : List B) (k : ℕ) (x : A) → slice_get xs k ≡ Some x
    → slice_get (sources xs us) k ≡ Some (inl x)
before_at {A} {B} xs us k x at =
    let left : A → A ⊎ B = inl in
    let right : B → A ⊎ B = inr in
    append_keeps (map left xs) (map right us) k (left x) (slice_get-map left xs k ∙ ap (option_map left) at)

-- where no element has a list, each has none
pub nothing_of : {X Y : Type 0} (g : X → List Y) (xs : List X) (x : X) → flat_map g xs ≡ [] → Contains xs x → g x ≡ []
nothing_of {X} {Y} g xs x e has = from (g x) refl where
  from : (ys : List Y) → g x ≡ ys → g x ≡ []
  from [] is = is
  from (y ∷ ys) is = absurd (nothing_in y (subst (λ z. Contains z y) e
      (flat_map_contains g xs x y has (subst (λ z. Contains z y) (sym is) (contains_first y ys)))))

-- images of elements that all have one
some_step : {Y : Type 0} (o : Option Y) (ys : List Y) (zs : List (Option Y)) → IsSome o → map (λ (y : Y). Some y) ys ≡ zs
    → map (λ (y : Y). Some y) (cons_option o ys) ≡ o ∷ zs
some_step None ys zs is e = absurd (cc is)
some_step (Some y) ys zs is e = ap (λ z. Some y ∷ z) e

pub all_some : {X Y : Type 0} (h : X → Option Y) (xs : List X) → All (λ (x : X). IsSome (h x)) xs
    → map (λ (y : Y). Some y) (filter_map h xs) ≡ map h xs
all_some h [] all = refl
all_some {X} h (x ∷ xs) all =
    some_step (h x) (filter_map h xs) (map h xs) (All-head (λ (z : X). IsSome (h z)) x xs all)
    (all_some h xs (All-tail (λ (z : X). IsSome (h z)) x xs all))

pub zip_images : {X Y : Type 0} (P : X → Type 0) (R : X → Y → Type 0) (f : X → Y) → ((x : X) → P x → R x (f x)) → (xs : List X) → All P xs
    → AllZip R xs (map f xs)
zip_images P R f gives [] all = tt
zip_images P R f gives (x ∷ xs) all =
    (gives x (All-head P x xs all), zip_images P R f gives xs (All-tail P x xs all))

-- a fact of elements beside others is one of these
pub zip_facts : {X Y : Type 0} (P : X → Type 0) (R : X → Y → Type 0) (Q : Y → Type 0) → ((x : X) (y : Y) → P x → R x y → Q y)
    → (xs : List X) (ys : List Y) → ((x : X) → Contains xs x → P x) → AllZip R xs ys → All Q ys
zip_facts P R Q gives xs ys each all = all_from_places Q ys (λ i y at.
    let b = beside R xs ys i y all at in gives b.other y (each b.other (contains_at xs b.other i b.at)) b.related)

-- a relation of listed elements that follows from another
pub zip_listed : {X Y : Type 0} (R S : X → Y → Type 0) (xs : List X) (ys : List Y) → ((x : X) (y : Y) → Contains xs x → R x y → S x y)
    → AllZip R xs ys → AllZip S xs ys
zip_listed R S [] [] gives all = tt
zip_listed R S [] (y ∷ ys) gives all = absurd all
zip_listed R S (x ∷ xs) [] gives all = absurd all
zip_listed R S (x ∷ xs) (y ∷ ys) gives all = (
  gives x y (contains_first x xs) all.0,
  zip_listed R S xs ys (λ z v has. gives z v (contains_later x z xs has)) all.1,
)

-- two lists beside one
pub same_images : {X Y Z : Type 0} (R : X → Y → Type 0) (S : X → Z → Type 0) (g : Z → Y)
    → ((x : X) (y : Y) (z : Z) → R x y → S x z → y ≡ g z)
    → (xs : List X) (ys : List Y) (zs : List Z) → AllZip R xs ys → AllZip S xs zs → ys ≡ map g zs
same_images R S g one [] [] [] a b = refl
same_images R S g one [] [] (z ∷ zs) a b = absurd b
same_images R S g one [] (y ∷ ys) zs a b = absurd a
same_images R S g one (x ∷ xs) [] zs a b = absurd a
same_images R S g one (x ∷ xs) (y ∷ ys) [] a b = absurd b
same_images R S g one (x ∷ xs) (y ∷ ys) (z ∷ zs) a b =
    ap (λ k. k ∷ ys) (one x y z a.0 b.0) ∙ ap (λ k. g z ∷ k) (same_images R S g one xs ys zs a.1 b.1)

-- two lists of grouped rows of the same elements
pub same_grouped : {X Y Z : Type 0} (P : X → Type 0) (R : X → Y → Type 0) (S : X → Z → Type 0) (g : Z → Y)
    → ((x : X) (y : Y) (z : Z) → R x y → S x z → y ≡ g z)
    → (xs : List X) (ys : List Y) (zs : List Z) → AreGrouped P R xs ys → AreGrouped P S xs zs → ys ≡ map g zs
same_grouped P R S g one xs ys zs a b =
    let same = one_split P xs a.leading a.following b.leading b.following a.splits b.splits in
    same_images R S g one (a.leading ++ a.following) ys zs a.are_rows
    (subst (λ k. AllZip S k zs) (ap (λ k. k ++ b.following) (sym same.0) ∙ ap (λ k. a.leading ++ k) (sym same.1)) b.are_rows)

-- grouped rows by a relation that follows
abbrev pub grouped_listed : {X Y : Type 0} (P : X → Type 0) (R S : X → Y → Type 0) (xs : List X) (rows : List Y)
    → ((x : X) (y : Y) → Contains xs x → R x y → S x y) → AreGrouped P R xs rows → AreGrouped P S xs rows
grouped_listed P R S xs rows gives g = record {
  leading = g.leading;
  following = g.following;
  splits = g.splits;
  are_rows = zip_listed R S (g.leading ++ g.following) rows
      (λ x y has. gives x y (contains_split P xs g.leading g.following g.splits x has)) g.are_rows;
}

-- the element of a row in the first group
pub record LeadingSource {X Y : Type 0} (P : X → Type 0) (R : X → Y → Type 0) (xs : List X) (row : Y) : Type 0 where
  pub source : X
  pub listed : Contains xs source
  pub leads : P source
  pub is_row : R source row

pub leading_source : {X Y : Type 0} (P : X → Type 0) (R : X → Y → Type 0) (xs : List X) (rows : List Y) (g : AreGrouped P R xs rows)
    → (k : ℕ) (row : Y) → k < length g.leading → slice_get rows k ≡ Some row → LeadingSource P R xs row
leading_source P R xs rows g k row within at =
    let b = beside R (g.leading ++ g.following) rows k row g.are_rows at in
    record {
      source = b.other;
      listed = contains_split P xs g.leading g.following g.splits b.other (contains_at (g.leading ++ g.following) b.other k b.at);
      leads = (leads_below P xs g.leading g.following g.splits k b.other b.at).0 within;
      is_row = b.related;
    }
