-- Which row is of which element, in lists of rows.
use Rattle.std.proofs.Common.{◌≡◌, ◌++◌, ◌∷◌, ◌⊎◌, inl, inr, [], ℕ, List, Some, All, Contains, map, slice_get, subst}
use Rattle.std.specs.List.{AllZip}
use Rattle.wb_lemmas.proofs.Members.{contains_at, place_of, contains_cases, contains_first, contains_later, contains_append, nothing_in}
use Rattle.wb_lemmas.proofs.Members.{append_contains_left, append_contains_right}
use Rattle.wb_lemmas.proofs.Elements.{all_from_places}
use Rattle.wb_lemmas.proofs.Zips.{zip_at, beside}
use Rattle.wb_names_numbers_theory.specs.Sources.{sources, Splits, nothing, leads, follows, AreGrouped}

-- an element of a mapped list
pub contains_map : {X Y : Type 0} (f : X → Y) (xs : List X) (y : Y) → Contains (map f xs) y → (x : X) × Contains xs x × (f x ≡ y)
contains_map f [] y has = absurd (nothing_in y has)
contains_map f (z ∷ xs) y has =
    elim (contains_cases (f z) y (map f xs) has) [
      | inl is ↦ (z, contains_first z xs, is)
      | inr more ↦ let r = contains_map f xs y more in (r.0, contains_later z r.0 xs r.1, r.2)
    ]

pub map_contains : {X Y : Type 0} (f : X → Y) (xs : List X) (x : X) → Contains xs x → Contains (map f xs) (f x)
map_contains f [] x has = absurd (nothing_in x has)
map_contains f (z ∷ xs) x has =
    elim (contains_cases z x xs has) [
      | inl is ↦ subst (λ k. Contains (map f (z ∷ xs)) (f k)) is (contains_first (f z) (map f xs))
      | inr more ↦ contains_later (f z) (f x) (map f xs) (map_contains f xs x more)
    ]

-- the elements of both parts are those of the whole
pub split_contains : {X : Type 0} (P : X → Type 0) (xs a b : List X) → Splits P xs a b → (x : X) → Contains xs x → Contains (a ++ b) x
split_contains P xs a b nothing x has = has
split_contains P xs a b (leads {x = y} {xs = ys} {leading = c} p s) x has =
    from (contains_cases y x ys has) (split_contains P ys c b s x) where
      from : (y ≡ x) ⊎ Contains ys x → (Contains ys x → Contains (c ++ b) x) → Contains ((y ∷ c) ++ b) x
      from (inl is) rest = subst (Contains ((y ∷ c) ++ b)) is (contains_first y (c ++ b))
      from (inr more) rest = contains_later y x (c ++ b) (rest more)
split_contains P xs a b (follows {x = y} {xs = ys} {following = d} p s) x has =
    from (contains_cases y x ys has) (split_contains P ys a d s x) where
      from : (y ≡ x) ⊎ Contains ys x → (Contains ys x → Contains (a ++ d) x) → Contains (a ++ y ∷ d) x
      from (inl is) rest = append_contains_right a (y ∷ d) x (subst (Contains (y ∷ d)) is (contains_first y d))
      from (inr more) rest = by_part (contains_append a d x (rest more)) where
        by_part : Contains a x ⊎ Contains d x → Contains (a ++ y ∷ d) x
        by_part (inl left) = append_contains_left a (y ∷ d) x left
        by_part (inr right) = append_contains_right a (y ∷ d) x (contains_later y x d right)

pub contains_split : {X : Type 0} (P : X → Type 0) (xs a b : List X) → Splits P xs a b → (x : X) → Contains (a ++ b) x → Contains xs x
contains_split P xs a b nothing x has = has
contains_split P xs a b (leads {x = y} {xs = ys} {leading = c} p s) x has =
    from (contains_cases y x (c ++ b) has) (contains_split P ys c b s x) where
      from : (y ≡ x) ⊎ Contains (c ++ b) x → (Contains (c ++ b) x → Contains ys x) → Contains (y ∷ ys) x
      from (inl is) rest = subst (Contains (y ∷ ys)) is (contains_first y ys)
      from (inr more) rest = contains_later y x ys (rest more)
contains_split P xs a b (follows {x = y} {xs = ys} {following = d} p s) x has =
    from (contains_append a (y ∷ d) x has) (contains_split P ys a d s x) where
      from : Contains a x ⊎ Contains (y ∷ d) x → (Contains (a ++ d) x → Contains ys x) → Contains (y ∷ ys) x
      from (inl left) rest = contains_later y x ys (rest (append_contains_left a d x left))
      from (inr right) rest = by_place (contains_cases y x d right) where
        by_place : (y ≡ x) ⊎ Contains d x → Contains (y ∷ ys) x
        by_place (inl is) = subst (Contains (y ∷ ys)) is (contains_first y ys)
        by_place (inr more) = contains_later y x ys (rest (append_contains_right a d x more))

-- the row of an element, and its place
pub record RowOf {X Y : Type 0} (R : X → Y → Type 0) (rows : List Y) (x : X) : Type 0 where
  pub place : ℕ
  pub row : Y
  pub at : slice_get rows place ≡ Some row
  pub is_row : R x row

pub row_of_zip : {X Y : Type 0} (R : X → Y → Type 0) (xs : List X) (rows : List Y) → AllZip R xs rows → (x : X) → Contains xs x
    → RowOf R rows x
row_of_zip R xs rows all x has =
    let (i, at) = place_of xs x has in
    let a = zip_at R xs rows i x all at in
    record { place = i; row = a.other; at = a.there; is_row = a.related }

pub row_of : {X Y : Type 0} (P : X → Type 0) (R : X → Y → Type 0) (xs : List X) (rows : List Y) → AreGrouped P R xs rows → (x : X)
    → Contains xs x → RowOf R rows x
row_of P R xs rows g x has =
    row_of_zip R (g.leading ++ g.following) rows g.are_rows x (split_contains P xs g.leading g.following g.splits x has)

-- the element of a row
pub record SourceOf {X Y : Type 0} (R : X → Y → Type 0) (xs : List X) (row : Y) : Type 0 where
  pub source : X
  pub listed : Contains xs source
  pub is_row : R source row

pub source_of_zip : {X Y : Type 0} (R : X → Y → Type 0) (xs : List X) (rows : List Y) → AllZip R xs rows → (i : ℕ) (row : Y)
    → slice_get rows i ≡ Some row → SourceOf R xs row
source_of_zip R xs rows all i row at =
    let a = beside R xs rows i row all at in record { source = a.other; listed = contains_at xs a.other i a.at; is_row = a.related }

pub source_of : {X Y : Type 0} (P : X → Type 0) (R : X → Y → Type 0) (xs : List X) (rows : List Y) → AreGrouped P R xs rows
    → (i : ℕ) (row : Y)
    → slice_get rows i ≡ Some row → SourceOf R xs row
source_of P R xs rows g i row at =
    let a = source_of_zip R (g.leading ++ g.following) rows g.are_rows i row at in
    record { source = a.source; listed = contains_split P xs g.leading g.following g.splits a.source a.listed; is_row = a.is_row }

-- a fact of the rows of all elements is one of all rows
pub all_rows : {X Y : Type 0} (P : X → Type 0) (R : X → Y → Type 0) (Q : Y → Type 0) (xs : List X) (rows : List Y) → AreGrouped P R xs rows
    → ((x : X) (y : Y) → Contains xs x → Contains rows y → R x y → Q y) → All Q rows
all_rows P R Q xs rows g gives = all_from_places Q rows (λ i y at.
    let s = source_of P R xs rows g i y at in gives s.source y s.listed (contains_at rows y i at) s.is_row)

pub all_zipped : {X Y : Type 0} (R : X → Y → Type 0) (Q : Y → Type 0) (xs : List X) (rows : List Y) → AllZip R xs rows
    → ((x : X) (y : Y) → Contains xs x → Contains rows y → R x y → Q y) → All Q rows
all_zipped R Q xs rows all gives = all_from_places Q rows (λ i y at.
    let s = source_of_zip R xs rows all i y at in gives s.source y s.listed (contains_at rows y i at) s.is_row)

-- what was there, and what is declared, are among the sources
pub there_before : {A B : Type 0} (before : List A) (declared : List B) (x : A) → Contains before x
    → Contains (sources before declared) (inl x)
there_before {A} {B} before declared x has = append_contains_left (map inl before) (map inr declared) (inl x) (map_contains inl before x
    has)

pub there_declared : {A B : Type 0} (before : List A) (declared : List B) (x : B) → Contains declared x
    → Contains (sources before declared) (inr x)
there_declared {A} {B} before declared x has = append_contains_right (map inl before) (map inr declared) (inr x) (map_contains inr declared
    x has)

-- and nothing else is
pub source_before : {A B : Type 0} (before : List A) (declared : List B) (x : A) → Contains (sources before declared) (inl x)
    → Contains before x
source_before {A} {B} before declared x has =
    let left : A → A ⊎ B = inl in
    let right : B → A ⊎ B = inr in
    elim (contains_append (map left before) (map right declared) (left x) has) [
      | inl h ↦ let r = contains_map left before (left x) h in
          let e : left r.0 ≡ left x = r.2 in
          let same : r.0 ≡ x = cc in
          subst (Contains before) same r.1
      | inr h ↦ let r = contains_map right declared (left x) h in
          let e : right r.0 ≡ left x = r.2 in
          absurd (cc e)
    ]

pub source_declared : {A B : Type 0} (before : List A) (declared : List B) (x : B) → Contains (sources before declared) (inr x)
    → Contains declared x
source_declared {A} {B} before declared x has =
    let left : A → A ⊎ B = inl in
    let right : B → A ⊎ B = inr in
    elim (contains_append (map left before) (map right declared) (right x) has) [
      | inl h ↦ let r = contains_map left before (right x) h in
          let e : left r.0 ≡ right x = r.2 in
          absurd (cc e)
      | inr h ↦ let r = contains_map right declared (right x) h in
          let e : right r.0 ≡ right x = r.2 in
          let same : r.0 ≡ x = cc in
          subst (Contains declared) same r.1
    ]
