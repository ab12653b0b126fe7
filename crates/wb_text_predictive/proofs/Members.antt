-- Membership in lists of kinds, where kinds are compared as values.
use Rattle.std.proofs.Common.{◌≡◌, ℕ, zero, suc, List, [], ◌∷◌, ◌++◌, Bool, true, false, ◌&&◌, not, cond, Option, Some, ◌⊎◌, inl, inr}
use Rattle.std.proofs.Common.{⊎_elim, sym, ap, ◌∙◌, subst}
use Rattle.std.specs.Prelude.{slice_get, ◌↔◌}
use Rattle.wb_text_predictive.specs.Kinds.{is_member, is_subset, is_apart, is_apart_from_all, are_apart}
use Rattle.wb_text_predictive.specs.Choice.{choose}
use Rattle.wb_text_predictive.proofs.Booleans.{skipped}
use Rattle.wb_lemmas.proofs.Booleans.{and_left, and_right, or_left, or_right, or_cases}

module _ {K : Type 0} (same : K → K → Bool) where
  -- a member of one part is one of the whole
  pub member_left : (k : K) (xs ys : List K) → is_member same k xs ≡ true → is_member same k (xs ++ ys) ≡ true
  member_left k [] ys h = cc
  member_left k (x ∷ xs) ys h = ⊎_elim (or_left (same x k) (is_member same k (xs ++ ys)))
      (λ m. or_right (same x k) (is_member same k (xs ++ ys)) (member_left k xs ys m)) (or_cases (same x k) (is_member same k xs) h)

  -- of the second part as well
  pub member_right : (k : K) (xs ys : List K) → is_member same k ys ≡ true → is_member same k (xs ++ ys) ≡ true
  member_right k [] ys h = h
  member_right k (x ∷ xs) ys h = or_right (same x k) (is_member same k (xs ++ ys)) (member_right k xs ys h)

  -- a member of the whole is one of a part
  pub member_cases : (k : K) (xs ys : List K) → is_member same k (xs ++ ys) ≡ true
      → (is_member same k xs ≡ true) ⊎ (is_member same k ys ≡ true)
  member_cases k [] ys h = inr h
  member_cases k (x ∷ xs) ys h = ⊎_elim (λ m. inl (or_left (same x k) (is_member same k xs) m))
      (λ m. ⊎_elim (λ a. inl (or_right (same x k) (is_member same k xs) a)) inr (member_cases k xs ys m))
      (or_cases (same x k) (is_member same k (xs ++ ys)) h)

  -- the same where the second part counts only under a condition
  pub joined_cases : (k : K) (b nf : Bool) (xs fs fgs gs : List K)
      → (is_member same k fgs ≡ true → (is_member same k fs ≡ true) ⊎ ((nf ≡ true) × (is_member same k gs ≡ true)))
      → is_member same k (xs ++ cond b fgs []) ≡ true
      → (is_member same k (xs ++ cond b fs []) ≡ true) ⊎ (((b && nf) ≡ true) × (is_member same k gs ≡ true))
  joined_cases k true nf xs fs fgs gs ih h = ⊎_elim (λ m. inl (member_left k xs fs m))
      (λ m. ⊎_elim (λ a. inl (member_right k xs fs a)) inr (ih m)) (member_cases k xs fgs h)
  joined_cases k false nf xs fs fgs gs ih h = inl h

  -- a list that is apart from all is apart from each
  pub apart_at : (xs : List K) (kss : List (List K)) (p : ℕ) (ks : List K) → is_apart_from_all same xs kss ≡ true
      → slice_get kss p ≡ Some ks → is_apart same xs ks ≡ true
  apart_at xs [] p ks h g = cc
  apart_at xs (js ∷ kss) zero ks h g = let e : js ≡ ks = cc in
      subst (λ z. is_apart same xs z ≡ true) e (and_left (is_apart same xs js) (is_apart_from_all same xs kss) h)
  apart_at xs (js ∷ kss) (suc p) ks h g = apart_at xs kss p ks (and_right (is_apart same xs js) (is_apart_from_all same xs kss) h) g

  -- what is chosen is one of the right sides
  pub chosen_is : {S : Type 0} (rs : List S) (kss : List (List K)) (k : K) (r : S) → choose same rs kss k ≡ Some r
      → (p : ℕ) × (slice_get rs p ≡ Some r)
  chosen_is [] kss k r h = cc
  chosen_is (s ∷ rs) [] k r h = cc
  chosen_is {S} (s ∷ rs) (ks ∷ kss) k r h = by_test (is_member same k ks) s rs r (choose same rs kss k) (chosen_is rs kss k r) h
    where
      by_test : (b : Bool) (s : S) (rs : List S) (r : S) (o : Option S) → (o ≡ Some r → (p : ℕ) × (slice_get rs p ≡ Some r))
          → cond b (Some s) o ≡ Some r → (p : ℕ) × (slice_get (s ∷ rs) p ≡ Some r)
      by_test true s rs r o f h = (0, h)
      by_test false s rs r o f h = let g = f h in (suc g.0, g.1)

module _ {K : Type 0} (same : K → K → Bool) (exact : (a b : K) → (same a b ≡ true) ↔ (a ≡ b)) where
  -- a member of a part of a set is one of the set
  pub subset_member : (k : K) (xs ys : List K) → is_subset same xs ys ≡ true → is_member same k xs ≡ true → is_member same k ys ≡ true
  subset_member k [] ys s h = cc
  subset_member k (x ∷ xs) ys s h =
      ⊎_elim (λ m. subst (λ z. is_member same z ys ≡ true) ((exact x k).0 m) (and_left (is_member same x ys) (is_subset same xs ys) s))
      (λ m. subset_member k xs ys (and_right (is_member same x ys) (is_subset same xs ys) s) m)
      (or_cases (same x k) (is_member same k xs) h)

  -- nothing is a member of two lists that are apart
  pub not_both : (k : K) (xs ys : List K) → is_apart same xs ys ≡ true → is_member same k xs ≡ true → is_member same k ys ≡ true → ⊥
  not_both k [] ys d h g = cc
  not_both k (x ∷ xs) ys d h g =
      ⊎_elim (λ m. let e : is_member same x ys ≡ true = subst (λ z. is_member same z ys ≡ true) (sym ((exact x k).0 m)) g in
      let n = and_left (not (is_member same x ys)) (is_apart same xs ys) d in let j = ap not e in absurd (cc))
      (λ m. not_both k xs ys (and_right (not (is_member same x ys)) (is_apart same xs ys) d) m g)
      (or_cases (same x k) (is_member same k xs) h)

  -- a right side is chosen at each of its kinds, where the kinds are apart
  pub chosen : {S : Type 0} (rs : List S) (kss : List (List K)) (k : K) (p : ℕ) (r : S) (ks : List K)
      → are_apart same kss ≡ true → slice_get rs p ≡ Some r → slice_get kss p ≡ Some ks
      → is_member same k ks ≡ true → choose same rs kss k ≡ Some r
  chosen [] kss k p r ks a g h m = cc
  chosen (s ∷ rs) [] k p r ks a g h m = cc
  chosen (s ∷ rs) (js ∷ kss) k zero r ks a g h m =
      let e : ks ≡ js = cc in
      ap (λ c. cond c (Some s) (choose same rs kss k)) (subst (λ z. is_member same k z ≡ true) e m) ∙ g
  chosen (s ∷ rs) (js ∷ kss) k (suc p) r ks a g h m =
      skipped (is_member same k js) s (choose same rs kss k) r
      (λ b. not_both k js ks (apart_at same js kss p ks (and_left (is_apart_from_all same js kss) (are_apart same kss) a) h) b m)
      (chosen rs kss k p r ks (and_right (is_apart_from_all same js kss) (are_apart same kss) a) g h m)
