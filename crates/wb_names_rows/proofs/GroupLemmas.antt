-- Rows that are kept in two lists are grouped rows, when the one list goes before the other.
use Rattle.std.proofs.Common.{◌≡◌, ◌++◌, ◌∷◌, ◌⊎◌, inl, inr, [], Bool, true, false, not, cond, List, map, ap, sym, refl, subst, ◌∙◌}
use Rattle.std.specs.Prelude.{filter}
use Rattle.std.specs.List.{AllZip}
use Rattle.std.proofs.lemmas.List.Elements.{filter-append}
use Rattle.wb_names_numbers_theory.specs.Sources.{sources, IsFrom, Splits, AreGrouped}
use Rattle.wb_names_numbers_theory.specs.Sources.Splits.{nothing, leads, follows}
use Rattle.wb_names_rows.proofs.ZipLemmas.{zip_append}

-- a list that a test splits
module _ {X : Type 0} (IsLeading : X → Type 0) (test : X → Bool) (lead : (x : X) → test x ≡ true → IsLeading x)
    (others : (x : X) → test x ≡ false → ¬ IsLeading x) where
  one_more : (x : X) (b : Bool) (xs leading following : List X) → test x ≡ b → Splits IsLeading xs leading following
      → Splits IsLeading (x ∷ xs) (cond b (x ∷ leading) leading) (cond (not b) (x ∷ following) following)
  one_more x true xs leading following is rest = leads (lead x is) rest
  one_more x false xs leading following is rest = follows (others x is) rest

  pub splits_filter : (xs : List X) → Splits IsLeading xs (filter test xs) (filter (λ (x : X). not (test x)) xs)
  splits_filter [] = nothing
  splits_filter (x ∷ xs) =
      one_more x (test x) xs (filter test xs) (filter (λ (y : X). not (test y)) xs) refl (splits_filter xs)

-- a filtered list of images
map_cond : {A B : Type 0} (f : A → B) (x : A) (b : Bool) (xs : List A) → cond b (f x ∷ map f xs) (map f xs) ≡ map f (cond b (x ∷ xs) xs)
map_cond f x true xs = refl
map_cond f x false xs = refl

filter_map_is : {A B : Type 0} (f : A → B) (test : B → Bool) (xs : List A)
    → filter test (map f xs) ≡ map f (filter (λ (x : A). test (f x)) xs)
filter_map_is f test [] = refl
filter_map_is f test (x ∷ xs) =
    ap (λ z. cond (test (f x)) (f x ∷ z) z) (filter_map_is f test xs) ∙ map_cond f x (test (f x)) (filter (λ y. test (f y)) xs)

module _ {A B C : Type 0} (M : A → C → Type 0) (W : B → C → Type 0) where
  abbrev left : A → A ⊎ B
  left = inl

  abbrev right : B → A ⊎ B
  right = inr

  zip_left : (xs : List A) (ys : List C) → AllZip M xs ys → AllZip (IsFrom M W) (map left xs) ys
  zip_left [] [] all = tt
  zip_left [] (y ∷ ys) all = absurd all
  zip_left (x ∷ xs) [] all = absurd all
  zip_left (x ∷ xs) (y ∷ ys) all = (all.0, zip_left xs ys all.1)

  zip_right : (xs : List B) (ys : List C) → AllZip W xs ys → AllZip (IsFrom M W) (map right xs) ys
  zip_right [] [] all = tt
  zip_right [] (y ∷ ys) all = absurd all
  zip_right (x ∷ xs) [] all = absurd all
  zip_right (x ∷ xs) (y ∷ ys) all = (all.0, zip_right xs ys all.1)

  -- rows of what was there and of what is declared, one after the other
  pub zip_sources : (xs : List A) (us : List B) (ys vs : List C) → AllZip M xs ys → AllZip W us vs
      → AllZip (IsFrom M W) (sources xs us) (ys ++ vs)
  zip_sources xs us ys vs all more = zip_append (IsFrom M W) (map left xs) (map right us) ys vs (zip_left xs ys all) (zip_right us vs more)

  -- those of them that pass a test
  pub zip_filtered : (test : A ⊎ B → Bool) (xs : List A) (us : List B) (ys vs : List C)
      → AllZip M (filter (λ (x : A). test (left x)) xs) ys → AllZip W (filter (λ (x : B). test (right x)) us) vs
      → AllZip (IsFrom M W) (filter test (sources xs us)) (ys ++ vs)
  zip_filtered test xs us ys vs all more =
      let kept : filter test (sources xs us)
      ≡ sources (filter (λ (x : A). test (left x)) xs) (filter (λ (x : B). test (right x)) us) =
      filter-append test (map left xs) (map right us)
      ∙ (ap (λ z. z ++ filter test (map right us)) (filter_map_is left test xs)
      ∙ ap (λ z. map left (filter (λ (x : A). test (left x)) xs) ++ z) (filter_map_is right test us)) in
      subst (λ z. AllZip (IsFrom M W) z (ys ++ vs)) (sym kept)
      (zip_sources (filter (λ (x : A). test (left x)) xs) (filter (λ (x : B). test (right x)) us) ys vs all more)

  -- two lists of rows, one after the other
  pub grouped : (IsLeading : A ⊎ B → Type 0) (test : A ⊎ B → Bool) → ((x : A ⊎ B) → test x ≡ true → IsLeading x)
      → ((x : A ⊎ B) → test x ≡ false → ¬ IsLeading x) → (xs : List A) (us : List B) (ys vs zs ws : List C)
      → AllZip M (filter (λ (x : A). test (left x)) xs) ys → AllZip W (filter (λ (x : B). test (right x)) us) vs
      → AllZip M (filter (λ (x : A). not (test (left x))) xs) zs → AllZip W (filter (λ (x : B). not (test (right x))) us) ws
      → AreGrouped IsLeading (IsFrom M W) (sources xs us) ((ys ++ vs) ++ (zs ++ ws))
  grouped IsLeading test lead others xs us ys vs zs ws a b c d = record {
    leading = filter test (sources xs us);
    following = filter (λ (x : A ⊎ B). not (test x)) (sources xs us);
    splits = splits_filter IsLeading test lead others (sources xs us);
    are_rows = zip_append (IsFrom M W) (filter test (sources xs us)) (filter (λ (x : A ⊎ B). not (test x)) (sources xs us)) (ys ++ vs)
        (zs ++ ws) (zip_filtered test xs us ys vs a b) (zip_filtered (λ (x : A ⊎ B). not (test x)) xs us zs ws c d);
  }
