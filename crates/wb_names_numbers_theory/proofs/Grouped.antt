-- Grouped rows: what leads comes first, and in each of the two groups owners don't fall.
use Rattle.std.proofs.Common.{◌≡◌, ◌≤◌, ◌<◌, ◌+◌, ◌++◌, ◌∷◌, ◌⊎◌, inl, inr, [], ℕ, zero, suc, List, Some, Contains, All, map, length}
use Rattle.std.proofs.Common.{slice_get}
use Rattle.std.proofs.Common.{ap, sym, subst, ◌∙◌, arith}
use Rattle.std.specs.List.{AllZip}
use Rattle.std.proofs.lemmas.List.Elements.{All-nil, All-cons}
use Rattle.std.proofs.lemmas.Option.{slice_get_within}
use Rattle.wb_lemmas.proofs.Elements.{all_at, all_from_contained, all_contained}
use Rattle.wb_lemmas.proofs.Members.{contains_at, append_contains_left, append_contains_right, contains_first, contains_later}
use Rattle.wb_lemmas.proofs.Places.{at_append}
use Rattle.wb_lemmas.proofs.Zips.{beside}
use Rattle.wb_syntax_resolved.specs.Numbered.{IsGrouped}
use Rattle.wb_names_numbers_theory.specs.Sources.{sources, Splits, nothing, leads, follows, AreGrouped}
use Rattle.wb_names_numbers_theory.proofs.RowLemmas.{contains_split, contains_map}

-- a number of each element doesn't fall
abbrev pub Rising : {X : Type 0} → (X → ℕ) → List X → Type 0
Rising f [] = Unit {0}
Rising f (x ∷ xs) = All (λ y. f x ≤ f y) xs × Rising f xs

module _ {X : Type 0} (f : X → ℕ) where
  rising_at : (xs : List X) → Rising f xs → (i j : ℕ) (x y : X) → i < j → slice_get xs i ≡ Some x → slice_get xs j ≡ Some y → f x ≤ f y
  rising_at [] r i j x y before a b = absurd (cc a)
  rising_at (z ∷ xs) r zero zero x y before a b = absurd (omega (arith, before))
  rising_at (z ∷ xs) r zero (suc j) x y before a b =
      let is : z ≡ x = cc in
      subst (λ k. f k ≤ f y) is (all_at (λ y. f z ≤ f y) xs j y r.0 b)
  rising_at (z ∷ xs) r (suc i) zero x y before a b = absurd (omega (arith, before))
  rising_at (z ∷ xs) r (suc i) (suc j) x y before a b = rising_at xs r.1 i j x y (omega (arith, before)) a b

  rising_split : (P : X → Type 0) (xs a b : List X) → Splits P xs a b → Rising f xs → Rising f a × Rising f b
  rising_split P xs a b nothing r = (tt, tt)
  rising_split P xs a b (leads {x = x} {xs = ys} {leading = c} p s) r =
      let rest = rising_split P ys c b s r.1 in (
        (
          all_from_contained (λ y. f x ≤ f y) c (λ y has. all_contained (λ y. f x ≤ f y) ys y r.0
              (contains_split P ys c b s y (append_contains_left c b y has))),
          rest.0,
        ),
        rest.1,
      )
  rising_split P xs a b (follows {x = x} {xs = ys} {following = d} p s) r =
      let rest = rising_split P ys a d s r.1 in (
        rest.0,
        (
          all_from_contained (λ y. f x ≤ f y) d (λ y has. all_contained (λ y. f x ≤ f y) ys y r.0
              (contains_split P ys a d s y (append_contains_right a d y has))),
          rest.1,
        ),
      )

-- what was there comes before what is declared
pub rising_sources : {A B : Type 0} (f : A ⊎ B → ℕ) (owner : ℕ) (before : List A) (declared : List B)
    → ((x : A) → Contains before x → f (inl x) ≡ 0) → ((y : B) → f (inr y) ≡ owner) → Rising f (sources before declared)
rising_sources {A} {B} f owner [] [] host own = tt
rising_sources {A} {B} f owner [] (y ∷ declared) host own = (
  all_from_contained (λ z. f (inr y) ≤ f z) (map inr declared) (λ z has. later z has),
  rising_sources f owner [] declared (λ x has. host x has) own,
) where
  later : (z : A ⊎ B) → Contains (map inr declared) z → f (inr y) ≤ f z
  later z has =
      let right : B → A ⊎ B = inr in
      let m = contains_map right declared z has in
      let one = own y in
      let other : f z ≡ owner = ap f (sym m.2) ∙ own m.0 in
      omega (arith, one, other)
rising_sources {A} {B} f owner (x ∷ before) declared host own = (
  all_from_contained (λ z. f (inl x) ≤ f z) (sources before declared) (λ z has. first z),
  rising_sources f owner before declared (λ y has. host y (contains_later x y before has)) own,
) where
  first : (z : A ⊎ B) → f (inl x) ≤ f z
  first z = let zero_is = host x (contains_first x before) in omega (arith, zero_is)

-- what leads passes, and what follows doesn't
pub split_leads : {X : Type 0} (P : X → Type 0) (xs a b : List X) → Splits P xs a b → All P a × All (λ x. ¬ P x) b
split_leads P xs a b nothing = (All-nil P, All-nil (λ x. ¬ P x))
split_leads P xs a b (leads {x = x} {xs = ys} {leading = c} p s) = let r = split_leads P ys c b s in (All-cons P x c p r.0, r.1)
split_leads P xs a b (follows {x = x} {xs = ys} {following = d} p s) =
    let r = split_leads P ys a d s in (r.0, All-cons (λ x. ¬ P x) x d p r.1)

-- an element leads exactly where its place is in the first group
pub leads_below : {X : Type 0} (P : X → Type 0) (xs a b : List X) → Splits P xs a b → (k : ℕ) (x : X) → slice_get (a ++ b) k ≡ Some x
    → (k < length a → P x) × (P x → k < length a)
leads_below P xs a b s k x at =
    let r = split_leads P xs a b s in
    elim (at_append a b x k at) [
      | inl first ↦ (λ within. all_at P a k x r.0 first, λ p. slice_get_within a k x first)
      | inr later ↦ (λ within. absurd (omega (arith, within, later.1)), λ p. absurd (all_at (λ x. ¬ P x) b later.0 x r.1 later.2 p))
    ]

-- an element, its row, and where they are
pub record Both {X Y : Type 0} (R : X → Y → Type 0) (xs : List X) (k : ℕ) (y : Y) : Type 0 where
  pub source : X
  pub at : slice_get xs k ≡ Some source
  pub is_row : R source y

module _ {X Y : Type 0} (P : X → Type 0) (R : X → Y → Type 0) (xs : List X) (rows : List Y) (g : AreGrouped P R xs rows) where
  abbrev all : List X
  all = g.leading ++ g.following

  pub both_at : (k : ℕ) (y : Y) → slice_get rows k ≡ Some y → Both R all k y
  both_at k y at = let b = beside R all rows k y g.are_rows at in record { source = b.other; at = b.at; is_row = b.related }

  listed : (k : ℕ) (x : X) → slice_get all k ≡ Some x → Contains xs x
  listed k x at = contains_split P xs g.leading g.following g.splits x (contains_at all x k at)

  -- the rows are grouped, where their owners and what leads are those of the elements
  pub is_grouped : (f : X → ℕ) (owner_of : Y → ℕ) (IsLeading : ℕ → Y → Type 0) → Rising f xs
      → ((x : X) (y : Y) → Contains xs x → R x y → owner_of y ≡ f x)
      → ((k : ℕ) (x : X) (y : Y) → Contains xs x → slice_get rows k ≡ Some y → R x y → (IsLeading k y → P x) × (P x → IsLeading k y))
      → IsGrouped owner_of IsLeading rows
  is_grouped f owner_of IsLeading rising owners leads_iff i j u v before at_i at_j =
      let x = both_at i u at_i in
      let y = both_at j v at_j in
      let has_x = listed i x.source x.at in
      let has_y = listed j y.source y.at in
      let owner_x = owners x.source u has_x x.is_row in
      let owner_y = owners y.source v has_y y.is_row in
      let lead_x = leads_iff i x.source u has_x at_i x.is_row in
      let lead_y = leads_iff j y.source v has_y at_j y.is_row in
      let below_x = leads_below P xs g.leading g.following g.splits i x.source x.at in
      let below_y = leads_below P xs g.leading g.following g.splits j y.source y.at in
      let parts = rising_split f P xs g.leading g.following g.splits rising in
      by_part x y lead_x lead_y below_x below_y owner_x owner_y parts (at_append g.leading g.following x.source i x.at)
      (at_append g.leading g.following y.source j y.at) where
        by_part : (x : Both R all i u) (y : Both R all j v) → (IsLeading i u → P x.source) × (P x.source → IsLeading i u)
            → (IsLeading j v → P y.source) × (P y.source → IsLeading j v)
            → (i < length g.leading → P x.source) × (P x.source → i < length g.leading)
            → (j < length g.leading → P y.source) × (P y.source → j < length g.leading) → owner_of u ≡ f x.source → owner_of v ≡ f y.source
            → Rising f g.leading × Rising f g.following
            → (slice_get g.leading i ≡ Some x.source) ⊎ ((k : ℕ) × (i ≡ length g.leading + k) × (slice_get g.following k ≡ Some x.source))
            → (slice_get g.leading j ≡ Some y.source) ⊎ ((k : ℕ) × (j ≡ length g.leading + k) × (slice_get g.following k ≡ Some y.source))
            → (IsLeading j v → IsLeading i u) × ((IsLeading i u → IsLeading j v) → owner_of u ≤ owner_of v)
        by_part x y lx ly bx below_j ox oy parts (inl a) (inl c) =
            let within = slice_get_within g.leading i x.source a in
            let order = rising_at f g.leading parts.0 i j x.source y.source before a c in
            (λ q. lx.1 (bx.0 within), λ q. omega (arith, order, ox, oy))
        by_part x y lx ly bx below_j ox oy parts (inl a) (inr c) =
            let within = slice_get_within g.leading i x.source a in
            let one = lx.1 (bx.0 within) in
            (λ q. one, λ q. let early = below_j.1 (ly.0 (q one)) in absurd (omega (arith, early, c.1)))
        by_part x y lx ly bx below_j ox oy parts (inr a) (inl c) =
            let within = slice_get_within g.leading j y.source c in
            (λ q. absurd (omega (arith, within, a.1, before)), λ q. absurd (omega (arith, within, a.1, before)))
        by_part x y lx ly bx below_j ox oy parts (inr a) (inr c) =
            let earlier : a.0 < c.0 = omega (arith, before, a.1, c.1) in
            let order = rising_at f g.following parts.1 a.0 c.0 x.source y.source earlier a.2 c.2 in
            (λ q. let early = below_j.1 (ly.0 q) in absurd (omega (arith, early, c.1)), λ q. omega (arith, order, ox, oy))

-- rows that aren't grouped go by owner, where their elements do
pub goes_by_owner : {X Y : Type 0} (R : X → Y → Type 0) (xs : List X) (rows : List Y) → AllZip R xs rows → (f : X → ℕ) (owner_of : Y → ℕ)
    → Rising f xs → ((x : X) (y : Y) → Contains xs x → R x y → owner_of y ≡ f x) → IsGrouped owner_of (λ k y. Unit {0}) rows
goes_by_owner R xs rows all f owner_of rising owners i j u v before at_i at_j =
    let x = beside R xs rows i u all at_i in
    let y = beside R xs rows j v all at_j in
    let one = owners x.other u (contains_at xs x.other i x.at) x.related in
    let other = owners y.other v (contains_at xs y.other j y.at) y.related in
    let order = rising_at f xs rising i j x.other y.other before x.at y.at in
    (λ q. tt, λ q. omega (arith, one, other, order))
