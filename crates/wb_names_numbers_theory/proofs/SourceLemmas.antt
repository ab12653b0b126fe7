-- Numbered lists by what they come from: there is one, and what it keeps.
use Rattle.std.proofs.Common.{◌≡◌, ◌++◌, ◌∷◌, [], List, All, map, ap, sym, refl, subst, ◌∙◌}
use Rattle.std.specs.List.{AllZip}
use Rattle.std.proofs.lemmas.List.Elements.{All-head, All-tail}
use Rattle.wb_lemmas.proofs.Zips.{zip_map}
use Rattle.wb_names_numbers_theory.specs.Sources.{Splits, nothing, leads, follows, AreGrouped}

-- a list is split in one way
pub one_split : {X : Type 0} (P : X → Type 0) (xs a b c d : List X) → Splits P xs a b → Splits P xs c d → (a ≡ c) × (b ≡ d)
one_split P xs a b c d nothing nothing = (refl, refl)
one_split P xs a b c d (leads {x = x} {xs = ys} {leading = u} {following = v} p s) (leads {leading = w} {following = z} q t) =
    let r = one_split P ys u v w z s t in (ap (λ k. x ∷ k) r.0, r.1)
one_split P xs a b c d (leads p s) (follows q t) = absurd (q p)
one_split P xs a b c d (follows p s) (leads q t) = absurd (p q)
one_split P xs a b c d (follows {x = x} {xs = ys} {leading = u} {following = v} p s) (follows {leading = w} {following = z} q t) =
    let r = one_split P ys u v w z s t in (r.0, ap (λ k. x ∷ k) r.1)

-- two lists of rows of the same elements carry the same
pub grouped_map : {X Y Z : Type 0} (P : X → Type 0) (R S : X → Y → Type 0) (f : X → Z) (g : Y → Z)
    → ((x : X) (y : Y) → R x y → g y ≡ f x) → ((x : X) (y : Y) → S x y → g y ≡ f x)
    → (xs : List X) (rows others : List Y) → AreGrouped P R xs rows → AreGrouped P S xs others → map g rows ≡ map g others
grouped_map P R S f g one other xs rows others a b =
    let same = one_split P xs a.leading a.following b.leading b.following a.splits b.splits in
    zip_map R f g one (a.leading ++ a.following) rows a.are_rows ∙ (ap (λ k. map f (k ++ a.following)) same.0
    ∙ (ap (λ k. map f (b.leading ++ k)) same.1 ∙ sym (zip_map S f g other (b.leading ++ b.following) others b.are_rows)))

-- two lists beside one, where what is beside an element is one for those that the first list may have
pub one_zip_where : {A B : Type 0} (R : A → B → Type 0) (P : B → Type 0) → ((x : A) (y z : B) → P y → R x y → R x z → y ≡ z)
    → (xs : List A) (ys zs : List B) → All P ys → AllZip R xs ys → AllZip R xs zs → ys ≡ zs
one_zip_where R P one [] [] [] all first second = refl
one_zip_where R P one [] [] (z ∷ zs) all first second = absurd second
one_zip_where R P one [] (y ∷ ys) zs all first second = absurd first
one_zip_where R P one (x ∷ xs) [] zs all first second = absurd first
one_zip_where R P one (x ∷ xs) (y ∷ ys) [] all first second = absurd second
one_zip_where R P one (x ∷ xs) (y ∷ ys) (z ∷ zs) all first second =
    ap (λ w. w ∷ ys) (one x y z (All-head P y ys all) first.0 second.0)
    ∙ ap (λ ws. z ∷ ws) (one_zip_where R P one xs ys zs (All-tail P y ys all) first.1 second.1)

-- rows of the same elements are the same
pub one_grouped : {X Y : Type 0} (P : X → Type 0) (R : X → Y → Type 0) (Q : Y → Type 0)
    → ((x : X) (y z : Y) → Q y → R x y → R x z → y ≡ z) → (xs : List X) (rows others : List Y) → All Q rows → AreGrouped P R xs rows
    → AreGrouped P R xs others → rows ≡ others
one_grouped P R Q one xs rows others all a b =
    let same = one_split P xs a.leading a.following b.leading b.following a.splits b.splits in
    one_zip_where R Q one (a.leading ++ a.following) rows others all a.are_rows
    (subst (λ k. AllZip R k others) (ap (λ k. k ++ b.following) (sym same.0) ∙ ap (λ k. a.leading ++ k) (sym same.1)) b.are_rows)
