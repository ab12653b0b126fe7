-- What the test says of each right side of a nonterminal.
use Rattle.std.proofs.Common.{◌≡◌, ℕ, zero, suc, List, [], ◌∷◌, Bool, true, ◌&&◌, Some, ⊎_elim, refl, subst}
use Rattle.std.specs.Prelude.{slice_get, nat_lt}
use Rattle.wb_text_predictive.specs.declared.symbol.Symbol.{Symbol}
use Rattle.wb_text_predictive.specs.Entries.{Entry, all_nullable, firsts, is_below, is_some_below, weight_of, is_foreseen, is_followed}
use Rattle.wb_text_predictive.specs.Entries.{is_right}
use Rattle.wb_text_predictive.specs.Entries.{are_rights, is_decided}
use Rattle.wb_text_predictive.specs.Kinds.{implies, is_subset, are_apart}
use Rattle.wb_lemmas.proofs.Booleans.{and_left, and_right, or_cases}

-- a right side that is below the rank
pub below_at : {K N A : Type 0} (entries : N → Entry K) (rank : ℕ) (rs : List (List (Symbol K N A)))
    → is_some_below entries rank rs ≡ true
    → (p : ℕ) × (r : List (Symbol K N A)) × (slice_get rs p ≡ Some r) × (is_below entries rank r ≡ true)
below_at entries rank [] h = cc
below_at entries rank (r ∷ rs) h =
    ⊎_elim (λ m. (0, r, refl, m)) (λ m. let i = below_at entries rank rs m in
    (suc i.0, i.1, i.2, i.3)) (or_cases (is_below entries rank r) (is_some_below entries rank rs) h)

module _ {K N A : Type 0} (same : K → K → Bool) (end : K) (entries : N → Entry K) where
  -- each right side is beside its kinds and agrees with the entry
  right_at : (e : Entry K) (rs : List (List (Symbol K N A))) (kss : List (List K)) (p : ℕ) (r : List (Symbol K N A))
      → are_rights same end entries e rs kss ≡ true → slice_get rs p ≡ Some r
      → (ks : List K) × (slice_get kss p ≡ Some ks) × (is_right same end entries e r ks ≡ true)
  right_at e [] kss p r h g = cc
  right_at e (s ∷ rs) [] p r h g = cc
  right_at e (s ∷ rs) (ks ∷ kss) zero r h g = let i : s ≡ r = cc in (
    ks,
    refl,
    subst (λ z. is_right same end entries e z ks ≡ true) i
        (and_left (is_right same end entries e s ks) (are_rights same end entries e rs kss) h),
  )
  right_at e (s ∷ rs) (ks ∷ kss) (suc p) r h g =
      right_at e rs kss p r (and_right (is_right same end entries e s ks) (are_rights same end entries e rs kss) h) g

  -- what the test says of a right side and its kinds
  pub record RightFacts (e : Entry K) (r : List (Symbol K N A)) (kss : List (List K)) (p : ℕ) : Type 0 where
    pub kinds : List K
    pub beside : slice_get kss p ≡ Some kinds
    pub foreseen : is_foreseen same entries r e.follow kinds ≡ true
    pub first : is_subset same (firsts entries r) e.first ≡ true
    pub nullable : implies (all_nullable entries r) e.nullable ≡ true
    pub followed : is_followed same end entries e.follow r ≡ true
    pub lighter : nat_lt (weight_of entries r) e.weight ≡ true

  -- the test, part by part
  parts : (e : Entry K) (r ks : _) (kss : List (List K)) (p : ℕ) → slice_get kss p ≡ Some ks
      → is_right same end entries e r ks ≡ true → RightFacts e r kss p
  parts e r ks kss p b h =
      let a1 = is_foreseen same entries r e.follow ks in
      let a2 = is_subset same (firsts entries r) e.first in
      let a3 = implies (all_nullable entries r) e.nullable in
      let a4 = is_followed same end entries e.follow r in
      let a5 = nat_lt (weight_of entries r) e.weight in
      let h4 = and_left (a1 && a2 && a3 && a4) a5 h in
      let h3 = and_left (a1 && a2 && a3) a4 h4 in
      let h2 = and_left (a1 && a2) a3 h3 in
      record {
        kinds = ks;
        beside = b;
        foreseen = and_left a1 a2 h2;
        first = and_right a1 a2 h2;
        nullable = and_right (a1 && a2) a3 h3;
        followed = and_right (a1 && a2 && a3) a4 h4;
        lighter = and_right (a1 && a2 && a3 && a4) a5 h;
      }

  module _ (rights : N → List (List (Symbol K N A))) (n : N) (decided : is_decided same end entries rights n ≡ true) where
    -- of a right side
    pub right_facts : (p : ℕ) (r : List (Symbol K N A)) → slice_get (rights n) p ≡ Some r → RightFacts (entries n) r (entries n).kinds p
    right_facts p r g =
        let a1 = are_rights same end entries (entries n) (rights n) (entries n).kinds in
        let a2 = are_apart same (entries n).kinds in
        let a3 = is_some_below entries (entries n).rank (rights n) in
        let i = right_at (entries n) (rights n) (entries n).kinds p r (and_left a1 a2 (and_left (a1 && a2) a3 decided)) g in
        parts (entries n) r i.0 (entries n).kinds p i.1 i.2

    -- the kinds of the right sides are apart
    pub apart : are_apart same (entries n).kinds ≡ true
    apart =
        let a1 = are_rights same end entries (entries n) (rights n) (entries n).kinds in
        let a2 = are_apart same (entries n).kinds in
        let a3 = is_some_below entries (entries n).rank (rights n) in
        and_right a1 a2 (and_left (a1 && a2) a3 decided)

    -- one right side is over nonterminals of less rank
    pub some_below : (p : ℕ) × (r : List (Symbol K N A)) × (slice_get (rights n) p ≡ Some r) × (is_below entries (entries n).rank r ≡ true)
    some_below =
        let a1 = are_rights same end entries (entries n) (rights n) (entries n).kinds in
        let a2 = are_apart same (entries n).kinds in
        let a3 = is_some_below entries (entries n).rank (rights n) in
        below_at entries (entries n).rank (rights n) (and_right (a1 && a2) a3 decided)
