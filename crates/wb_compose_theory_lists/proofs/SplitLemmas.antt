-- Lists of what was there before and what a file declares, group by group.
use Rattle.std.proofs.Common.{◌≡◌, ◌⊎◌, ◌∙◌, ◌<◌, ◌≤◌, ◌+◌, ◌-◌, ◌++◌, ◌∷◌, [], ℕ, zero, suc, List, Some, length, map, slice_get, take}
use Rattle.std.proofs.Common.{drop, refl}
use Rattle.std.proofs.Common.{sym, ap, subst, inl, inr, arith}
use Rattle.std.specs.Prelude.{All}
use Rattle.std.specs.List.{AllZip}
use Rattle.std.proofs.lemmas.List.Elements.{All-nil, All-cons}
use Rattle.std.proofs.lemmas.Slice.Zip.{AllZip-long}
use Rattle.wb_names_numbers_theory.specs.Sources.{sources, IsFrom, Splits, nothing, leads, follows, AreGrouped}

-- of a list the first so many lead, and no others
abbrev pub LeadFirst : {X : Type 0} → (X → Type 0) → ℕ → List X → Type 0
LeadFirst {X} IsLeading count xs = (i : ℕ) (x : X) → slice_get xs i ≡ Some x → (i < count → IsLeading x) × (IsLeading x → i < count)

-- both groups of what was there and of what is declared
pub record Halves {A B : Type 0} (P : A ⊎ B → Type 0) (before : List A) (count : ℕ) (leading following : List (A ⊎ B)) : Type 0 where
  pub lead : List B
  pub follow : List B
  pub leading_is : leading ≡ map inl (take count before) ++ map inr lead
  pub following_is : following ≡ map inl (drop count before) ++ map inr follow
  pub leads_all : All (λ (d : B). P (inr d)) lead
  pub follows_all : All (λ (d : B). ¬ P (inr d)) follow

-- what is declared
declared_halves : {A B : Type 0} (P : A ⊎ B → Type 0) (zs leading following : List (A ⊎ B)) → Splits P zs leading following
    → (declared : List B) → zs ≡ map inr declared → (lead : List B) × (follow : List B) × (leading ≡ map inr lead) × (following ≡ map inr follow)
    × All (λ (d : B). P (inr d)) lead × All (λ (d : B). ¬ P (inr d)) follow
declared_halves P zs leading following nothing declared is =
    ([], [], refl, refl, All-nil (λ d. P (inr d)), All-nil (λ d. ¬ P (inr d)))
declared_halves P zs leading following (leads {x = x} {xs = xs} p more) [] is = absurd (cc is)
declared_halves P zs leading following (leads {x = x} {xs = xs} {leading = ls} p more) (d ∷ ds) is =
    let head : x ≡ inr d = cc is in
    let tail : xs ≡ map inr ds = cc is in
    let (lead, follow, leading_is, following_is, leads_all, follows_all) = declared_halves P xs ls following more ds tail in (
      d ∷ lead,
      follow,
      ap (λ z. z ∷ ls) head ∙ ap (λ z. inr d ∷ z) leading_is,
      following_is,
      All-cons (λ z. P (inr z)) d lead (subst P head p) leads_all,
      follows_all,
    )
declared_halves P zs leading following (follows {x = x} {xs = xs} p more) [] is = absurd (cc is)
declared_halves P zs leading following (follows {x = x} {xs = xs} {following = fs} p more) (d ∷ ds) is =
    let head : x ≡ inr d = cc is in
    let tail : xs ≡ map inr ds = cc is in
    let (lead, follow, leading_is, following_is, leads_all, follows_all) = declared_halves P xs leading fs more ds tail in (
      lead,
      d ∷ follow,
      leading_is,
      ap (λ z. z ∷ fs) head ∙ ap (λ z. inr d ∷ z) following_is,
      leads_all,
      All-cons (λ z. ¬ P (inr z)) d follow (λ q. p (subst P (sym head) q)) follows_all,
    )

rest_first : {X : Type 0} (P : X → Type 0) (count : ℕ) (x : X) (xs : List X) → LeadFirst P (suc count) (x ∷ xs) → LeadFirst P count xs
rest_first P count x xs first i y at =
    let (to, from) = first (suc i) y at in
    ((λ less. to (omega (arith, less))), (λ p. let less = from p in omega (arith, less)))

rest_none : {X : Type 0} (P : X → Type 0) (x : X) (xs : List X) → LeadFirst P 0 (x ∷ xs) → LeadFirst P 0 xs
rest_none P x xs first i y at =
    let (to, from) = first (suc i) y at in
    ((λ less. absurd (omega (arith, less))), (λ p. let less = from p in absurd (omega (arith, less))))

pub halves : {A B : Type 0} (P : A ⊎ B → Type 0) (before : List A) (declared : List B) (count : ℕ)
    → LeadFirst (λ (x : A). P (inl x)) count before → (zs leading following : List (A ⊎ B)) → Splits P zs leading following
    → zs ≡ map inl before ++ map inr declared → Halves P before count leading following
halves P [] declared zero first zs leading following splits is =
    let (lead, follow, leading_is, following_is, leads_all, follows_all) = declared_halves P zs leading following splits declared is in
    record {
      lead = lead;
      follow = follow;
      leading_is = leading_is;
      following_is = following_is;
      leads_all = leads_all;
      follows_all = follows_all;
    }
halves P [] declared (suc count) first zs leading following splits is =
    let (lead, follow, leading_is, following_is, leads_all, follows_all) = declared_halves P zs leading following splits declared is in
    record {
      lead = lead;
      follow = follow;
      leading_is = leading_is;
      following_is = following_is;
      leads_all = leads_all;
      follows_all = follows_all;
    }
halves P (a ∷ before) declared count first zs leading following nothing is = absurd (cc is)
halves P (a ∷ before) declared zero first zs leading following (leads {x = x} {xs = xs} p more) is =
    let head : x ≡ inl a = cc is in
    let less = (first 0 a refl).1 (subst P head p) in
    absurd (omega (arith, less))
halves P (a ∷ before) declared (suc count) first zs leading following (leads {x = x} {xs = xs} {leading = ls} p more) is =
    let head : x ≡ inl a = cc is in
    let tail : xs ≡ map inl before ++ map inr declared = cc is in
    let rest = halves P before declared count (rest_first (λ z. P (inl z)) count a before first) xs ls following more tail in
    record {
      lead = rest.lead;
      follow = rest.follow;
      leading_is = ap (λ z. z ∷ ls) head ∙ ap (λ z. inl a ∷ z) rest.leading_is;
      following_is = rest.following_is;
      leads_all = rest.leads_all;
      follows_all = rest.follows_all;
    }
halves P (a ∷ before) declared zero first zs leading following (follows {x = x} {xs = xs} {following = fs} p more) is =
    let head : x ≡ inl a = cc is in
    let tail : xs ≡ map inl before ++ map inr declared = cc is in
    let rest = halves P before declared 0 (rest_none (λ z. P (inl z)) a before first) xs leading fs more tail in
    record {
      lead = rest.lead;
      follow = rest.follow;
      leading_is = rest.leading_is;
      following_is = ap (λ z. z ∷ fs) head ∙ ap (λ z. inl a ∷ z) rest.following_is;
      leads_all = rest.leads_all;
      follows_all = rest.follows_all;
    }
halves P (a ∷ before) declared (suc count) first zs leading following (follows {x = x} {xs = xs} p more) is =
    let head : x ≡ inl a = cc is in
    absurd (p (subst P (sym head) ((first 0 a refl).0 (omega arith))))

-- rows of two lists, one after the other
pub record Parts {A B C : Type 0} (M : A → C → Type 0) (W : B → C → Type 0) (xs : List A) (ys : List B) (rows : List C) : Type 0 where
  pub moved : List C
  pub own : List C
  pub are : rows ≡ moved ++ own
  pub are_moved : AllZip M xs moved
  pub are_own : AllZip W ys own

own_rows : {A B C : Type 0} (M : A → C → Type 0) (W : B → C → Type 0) (ys : List B) (rows : List C)
    → AllZip (IsFrom M W) (map inr ys) rows → AllZip W ys rows
own_rows M W [] [] all = tt
own_rows M W [] (r ∷ rows) all = absurd all
own_rows M W (y ∷ ys) [] all = absurd all
own_rows M W (y ∷ ys) (r ∷ rows) all = (all.0, own_rows M W ys rows all.1)

pub parts : {A B C : Type 0} (M : A → C → Type 0) (W : B → C → Type 0) (xs : List A) (ys : List B) (rows : List C)
    → AllZip (IsFrom M W) (map inl xs ++ map inr ys) rows → Parts M W xs ys rows
parts M W [] ys rows all = record { moved = []; own = rows; are = refl; are_moved = tt; are_own = own_rows M W ys rows all }
parts M W (x ∷ xs) ys [] all = absurd all
parts M W (x ∷ xs) ys (r ∷ rows) all =
    let rest = parts M W xs ys rows all.1 in
    record {
      moved = r ∷ rest.moved;
      own = rest.own;
      are = ap (λ z. r ∷ z) rest.are;
      are_moved = (all.0, rest.are_moved);
      are_own = rest.are_own;
    }

split_zip : {A C : Type 0} (R : A → C → Type 0) (xs ys : List A) (rows : List C) → AllZip R (xs ++ ys) rows
    → (first : List C) × (second : List C) × (rows ≡ first ++ second) × AllZip R xs first × AllZip R ys second
split_zip R [] ys rows all = ([], rows, refl, tt, all)
split_zip R (x ∷ xs) ys [] all = absurd all
split_zip R (x ∷ xs) ys (r ∷ rows) all =
    let (first, second, are, one, two) = split_zip R xs ys rows all.1 in (r ∷ first, second, ap (λ z. r ∷ z) are, (all.0, one), two)

-- rows in two groups, each of what was there and then of what is declared
pub record Groups {A B C : Type 0} (M : A → C → Type 0) (W : B → C → Type 0) (before : List A) (count : ℕ) (rows : List C) : Type 0 where
  pub lead : List B
  pub follow : List B
  pub leading : List C
  pub following : List C
  pub are : rows ≡ leading ++ following
  pub lead_parts : Parts M W (take count before) lead leading
  pub follow_parts : Parts M W (drop count before) follow following

-- which of what is declared leads
pub record AreSplit {A B C : Type 0} (P : A ⊎ B → Type 0) (M : A → C → Type 0) (W : B → C → Type 0) (before : List A) (count : ℕ)
    (rows : List C) : Type 0 where
  pub in_groups : Groups M W before count rows
  pub leads_all : All (λ (d : B). P (inr d)) in_groups.lead
  pub follows_all : All (λ (d : B). ¬ P (inr d)) in_groups.follow

pub groups : {A B C : Type 0} (P : A ⊎ B → Type 0) (M : A → C → Type 0) (W : B → C → Type 0) (before : List A) (declared : List B)
    (count : ℕ) (rows : List C) → LeadFirst (λ (x : A). P (inl x)) count before → AreGrouped P (IsFrom M W) (sources before declared) rows
    → AreSplit P M W before count rows
groups P M W before declared count rows first grouped =
    let h = halves P before declared count first (sources before declared) grouped.leading grouped.following grouped.splits refl in
    let (one, two, are, all, others) = split_zip (IsFrom M W) grouped.leading grouped.following rows grouped.are_rows in
    record {
      in_groups = record {
        lead = h.lead;
        follow = h.follow;
        leading = one;
        following = two;
        are = are;
        lead_parts = parts M W (take count before) h.lead one (subst (λ z. AllZip (IsFrom M W) z one) h.leading_is all);
        follow_parts = parts M W (drop count before) h.follow two (subst (λ z. AllZip (IsFrom M W) z two) h.following_is others);
      };
      leads_all = h.leads_all;
      follows_all = h.follows_all;
    }

-- what leads has as many rows
pub groups_leading : {A B C : Type 0} (P : A ⊎ B → Type 0) (M : A → C → Type 0) (W : B → C → Type 0) (before : List A) (declared : List B)
    (count : ℕ) (rows : List C) (first : LeadFirst (λ (x : A). P (inl x)) count before)
    (grouped : AreGrouped P (IsFrom M W) (sources before declared) rows)
    → length (groups P M W before declared count rows first grouped).in_groups.leading ≡ length grouped.leading
unfolding groups
groups_leading P M W before declared count rows first grouped =
    let (one, two, are, all, others) = split_zip (IsFrom M W) grouped.leading grouped.following rows grouped.are_rows in
    AllZip-long (IsFrom M W) grouped.leading one all
