-- Rows that keep their places: of sources those that are first and lead are first.
use Rattle.std.proofs.Common.{◌≡◌, ◌≤◌, ◌<◌, ◌++◌, ◌∷◌, ◌⊎◌, inl, inr, [], ℕ, zero, suc, List, Some, map, length, slice_get, take}
use Rattle.std.proofs.Common.{ap, refl, sym, subst, ◌∙◌, arith}
use Rattle.std.proofs.lemmas.Option.{slice_get_within, same_Some}
use Rattle.wb_lemmas.proofs.Places.{append_keeps, at_within, nothing_at}
use Rattle.wb_lemmas.proofs.Zips.{beside, zip_at}
use Rattle.wb_names_numbers_theory.specs.Sources.{AreGrouped, IsFrom, Splits, follows, leads, nothing, sources}
use Rattle.wb_names_numbers_theory.proofs.Grouped.{leads_below}

-- where the first so many lead, they are at their places
pub lead_kept : {X : Type 0} (P : X → Type 0) (n : ℕ) (xs a b : List X) → Splits P xs a b
    → ((k : ℕ) (x : X) → k < n → slice_get xs k ≡ Some x → P x) → (k : ℕ) (x : X) → k < n → slice_get xs k ≡ Some x
    → slice_get a k ≡ Some x
lead_kept P zero xs a b s each k x below at = absurd (omega (arith, below))
lead_kept P (suc n) xs a b nothing each k x below at = absurd (nothing_at x k at)
lead_kept P (suc n) xs a b (leads {xs = ys} {leading = c} p s) each zero x below at = at
lead_kept P (suc n) xs a b (leads {xs = ys} {leading = c} p s) each (suc k) x below at =
    lead_kept P n ys c b s (λ j y less there. each (suc j) y (omega (arith, less)) there) k x (omega (arith, below)) at
lead_kept P (suc n) xs a b (follows {x = y} {xs = ys} p s) each k x below at = absurd (p (each 0 y (omega arith) refl))

-- what leads was at no earlier place
pub lead_later : {X : Type 0} (P : X → Type 0) (xs a b : List X) → Splits P xs a b → (k : ℕ) (x : X) → slice_get a k ≡ Some x
    → (j : ℕ) × (k ≤ j) × (slice_get xs j ≡ Some x)
lead_later P xs a b nothing k x at = absurd (nothing_at x k at)
lead_later P xs a b (leads {xs = ys} {leading = c} p s) zero x at = (0, omega arith, at)
lead_later P xs a b (leads {xs = ys} {leading = c} p s) (suc k) x at =
    let r = lead_later P ys c b s k x at in
    let less = r.1 in (suc r.0, omega (arith, less), r.2)
lead_later P xs a b (follows {xs = ys} {following = d} p s) k x at =
    let r = lead_later P ys a d s k x at in
    let less = r.1 in (suc r.0, omega (arith, less), r.2)

-- what is at a place, mapped
pub map_at : {X Y : Type 0} (f : X → Y) (xs : List X) (k : ℕ) (x : X) → slice_get xs k ≡ Some x → slice_get (map f xs) k ≡ Some (f x)
map_at f [] k x at = absurd (nothing_at x k at)
map_at f (y ∷ xs) zero x at = ap (λ z. Some (f z)) (same_Some y x at)
map_at f (y ∷ xs) (suc k) x at = map_at f xs k x at

-- a source is what was there at this place, or is declared
pub source_at : {A B : Type 0} (before : List A) (declared : List B) (k : ℕ) (z : A ⊎ B) → slice_get (sources before declared) k ≡ Some z
    → ((x : A) × (z ≡ inl x) × (slice_get before k ≡ Some x)) ⊎ ((y : B) × (z ≡ inr y))
source_at [] [] k z at = absurd (nothing_at z k at)
source_at [] (y ∷ declared) zero z at = inr (y, let same : z ≡ inr y = cc in same)
source_at {A} {B} [] (y ∷ declared) (suc k) z at =
    let none : List A = [] in
    elim (source_at none declared k z at) [
      | inl here ↦ absurd (nothing_at here.0 k here.2)
      | inr later ↦ inr later
    ]
source_at (x ∷ before) declared zero z at = inl (x, let same : z ≡ inl x = cc in same, refl)
source_at (x ∷ before) declared (suc k) z at = source_at before declared k z at

module _ {A B Y : Type 0} (P : A ⊎ B → Type 0) (M : A → Y → Type 0) (W : B → Y → Type 0) (before : List A) (declared : List B)
    (rows : List Y) (grouped : AreGrouped P (IsFrom M W) (sources before declared) rows) where
  -- what was at the place, and its row
  pub record Kept (k : ℕ) : Type 0 where
    pub was : A
    pub at : slice_get before k ≡ Some was
    pub row : Y
    pub there : slice_get rows k ≡ Some row
    pub moved : M was row
    pub within : k < length grouped.leading

  -- the first so many lead
  abbrev pub Lead : ℕ → Type 0
  Lead n = (k : ℕ) (x : A) → k < n → slice_get before k ≡ Some x → P (inl x)

  -- so what was at a place has its row there
  pub kept_at : (n : ℕ) → n ≤ length before → Lead n → (k : ℕ) → k < n → Kept k
  kept_at n long each k below =
      let (x, at) = at_within before k (omega (arith, long, below)) in
      let source : slice_get (sources before declared) k ≡ Some (inl x) =
      append_keeps (map inl before) (map inr declared) k (inl x) (map_at inl before k x at) in
      let led = lead_kept P n (sources before declared) grouped.leading grouped.following grouped.splits by_source k (inl x) below source in
      let found = zip_at (IsFrom M W) (grouped.leading ++ grouped.following) rows k (inl x) grouped.are_rows
      (append_keeps grouped.leading grouped.following k (inl x) led) in
      record {
        was = x;
        at = at;
        row = found.other;
        there = found.there;
        moved = found.related;
        within = slice_get_within grouped.leading k (inl x) led;
      }
    where
      by_source : (j : ℕ) (z : A ⊎ B) → j < n → slice_get (sources before declared) j ≡ Some z → P z
      by_source j z less at =
          let (x, there) = at_within before j (omega (arith, long, less)) in
          let source : slice_get (sources before declared) j ≡ Some (inl x) =
          append_keeps (map inl before) (map inr declared) j (inl x) (map_at inl before j x there) in
          subst P (same_Some (inl x) z (sym source ∙ at)) (each j x less there)

  -- where no others that were there lead, further rows that lead are of what is declared
  pub new_at : (n : ℕ) → ((k : ℕ) (x : A) → n ≤ k → slice_get before k ≡ Some x → ¬ P (inl x)) → (k : ℕ) (row : Y) → n ≤ k
      → k < length grouped.leading → slice_get rows k ≡ Some row → (y : B) × W y row
  new_at n none k row past within at =
      let b = beside (IsFrom M W) (grouped.leading ++ grouped.following) rows k row grouped.are_rows at in
      let (z, led) = at_within grouped.leading k within in
      let all_at : slice_get (grouped.leading ++ grouped.following) k ≡ Some z = append_keeps grouped.leading grouped.following k z led in
      let same : b.other ≡ z = same_Some b.other z (sym b.at ∙ all_at) in
      let leads_it : P z = (leads_below P (sources before declared) grouped.leading grouped.following grouped.splits k z all_at).0 within in
      let later = lead_later P (sources before declared) grouped.leading grouped.following grouped.splits k z led in
      go z (subst (λ w. IsFrom M W w row) same b.related) leads_it later.0 (let more = later.1 in omega (arith, past, more))
      (source_at before declared later.0 z later.2)
    where
      go : (z : A ⊎ B) → IsFrom M W z row → P z → (j : ℕ) → n ≤ j
          → ((x : A) × (z ≡ inl x) × (slice_get before j ≡ Some x)) ⊎ ((y : B) × (z ≡ inr y)) → (y : B) × W y row
      go z is_row leads_it j past (inl here) = absurd (none j here.0 past here.2 (subst P here.1 leads_it))
      go z is_row leads_it j past (inr here) = (here.0, subst (λ w. IsFrom M W w row) here.1 is_row)

-- what is below one is below the other
pub all_below : (m n : ℕ) → ((k : ℕ) → k < m → k < n) → m ≤ n
all_below zero n each = omega arith
all_below (suc m) n each = let less = each m (omega arith) in omega (arith, less)

-- a list that has at each place what another has is longer by some
pub prefix_of : {X : Type 0} (xs ys : List X) → ((k : ℕ) (x : X) → slice_get xs k ≡ Some x → slice_get ys k ≡ Some x)
    → (more : List X) × (ys ≡ xs ++ more)
prefix_of [] ys each = (ys, refl)
prefix_of (x ∷ xs) [] each = absurd (nothing_at x 0 (each 0 x refl))
prefix_of (x ∷ xs) (y ∷ ys) each =
    let rest = prefix_of xs ys (λ k z at. each (suc k) z at) in
    let first : y ≡ x = same_Some y x (each 0 x refl) in
    (rest.0, ap (λ zs. y ∷ zs) rest.1 ∙ ap (λ z. z ∷ (xs ++ rest.0)) first)

-- and is the other, where it isn't longer
pub same_list : {X : Type 0} (xs ys : List X) → length ys ≡ length xs
    → ((k : ℕ) (x : X) → slice_get xs k ≡ Some x → slice_get ys k ≡ Some x) → ys ≡ xs
same_list [] [] long each = refl
same_list [] (y ∷ ys) long each = absurd (omega (arith, long))
same_list (x ∷ xs) [] long each = absurd (omega (arith, long))
same_list (x ∷ xs) (y ∷ ys) long each =
    let rest = same_list xs ys (omega (arith, long)) (λ k z at. each (suc k) z at) in
    let first : y ≡ x = same_Some y x (each 0 x refl) in
    ap (λ zs. y ∷ zs) rest ∙ ap (λ z. z ∷ xs) first

-- what is the same where it is known to be there is the same
pub some_once : {X : Type 0} (xs ys : List X) → map (λ (x : X). Some x) xs ≡ map (λ (x : X). Some x) ys → xs ≡ ys
some_once [] [] e = refl
some_once [] (y ∷ ys) e = absurd (cc e)
some_once (x ∷ xs) [] e = absurd (cc e)
some_once {X} (x ∷ xs) (y ∷ ys) e =
    let first : x ≡ y = cc in
    let rest : map (λ (x : X). Some x) xs ≡ map (λ (x : X). Some x) ys = cc in
    ap (λ zs. x ∷ zs) (some_once xs ys rest) ∙ ap (λ z. z ∷ ys) first

-- so many are taken where there are so many, and the others are left
pub length-take_within : {X : Type 0} (n : ℕ) (xs : List X) → n ≤ length xs → length (take n xs) ≡ n
length-take_within zero xs within = refl
length-take_within (suc n) [] within = absurd (omega (arith, within))
length-take_within (suc n) (x ∷ xs) within = ap suc (length-take_within n xs (omega (arith, within)))
