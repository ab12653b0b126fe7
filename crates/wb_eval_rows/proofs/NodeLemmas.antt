-- Nodes: one row and one list of digits lead to each, and what a new one leaves as it was.
use Rattle.std.proofs.Common.{◌≡◌, ◌≢◌, ◌∙◌, ◌⊎◌, ◌≤◌, ◌<◌, inl, inr, ℕ, zero, suc, List, [], ◌∷◌, refl, sym, ap, subst, arith}
use Rattle.wb_eval_rows.specs.Rows.{at}
use Rattle.wb_eval_rows.specs.Sparse.{node_at, IsForest}
use Rattle.wb_eval_rows.specs.declared.sparse.SparseRows.{SparseRows}

-- a number is 0 or not
cases_zero : (n : ℕ) → (n ≡ 0) ⊎ ((k : ℕ) × (n ≡ suc k))
cases_zero zero = inl refl
cases_zero (suc k) = inr (k, refl)

module _ (s : SparseRows) (is : IsForest s) where
  -- nothing is below what is no node
  pub below_none : (n d : ℕ) → n ≡ 0 → at s.links n d ≡ 0
  below_none n d none = is.no_links n d (inl none)

  -- what leads to a node is one
  pub one_way : (i j : ℕ) (ds es : List ℕ) (k : ℕ) → node_at s.first s.links i ds ≡ suc k → node_at s.first s.links j es ≡ suc k
      → (i ≡ j) × (ds ≡ es)
  one_way i j [] es k p q = absurd (cc p)
  one_way i j (d ∷ ds) [] k p q = absurd (cc q)
  one_way i j (d ∷ []) (e ∷ []) k p q = let (rows, digits) = is.once_first i j d e k p q in (rows, ap (λ z. z ∷ []) digits)
  one_way i j (d ∷ []) (e ∷ y ∷ es) k p q = absurd (is.apart i (node_at s.first s.links j (y ∷ es)) d e k p q)
  one_way i j (d ∷ x ∷ ds) (e ∷ []) k p q = absurd (is.apart j (node_at s.first s.links i (x ∷ ds)) e d k q p)
  one_way i j (d ∷ x ∷ ds) (e ∷ y ∷ es) k p q =
      let (nodes, digits) = is.once_links (node_at s.first s.links i (x ∷ ds)) (node_at s.first s.links j (y ∷ es)) d e k p q in
      elim (cases_zero (node_at s.first s.links i (x ∷ ds))) [
        | inl none ↦ absurd (let h = sym (below_none (node_at s.first s.links i (x ∷ ds)) d none) ∙ p in cc h)
        | inr (m, some) ↦
            let (rows, more) = one_way i j (x ∷ ds) (y ∷ es) m some (sym nodes ∙ some) in
            (rows, ap (λ z. z ∷ x ∷ ds) digits ∙ ap (λ l. e ∷ l) more)
      ]

  pub node_within : (i : ℕ) (ds : List ℕ) → node_at s.first s.links i ds ≤ s.nodes
  node_within i [] = omega arith
  node_within i (d ∷ []) = is.within_first i d
  node_within i (d ∷ e ∷ ds) = is.within_links (node_at s.first s.links i (e ∷ ds)) d

-- a place is as it was, or led nowhere and leads to the new node
abbrev pub IsSameOr : ℕ → ℕ → ℕ → Type 0
IsSameOr new old k = (new ≡ old) ⊎ ((old ≡ 0) × (new ≡ k))

-- where one place leads to a new node, the others are as they were
module _ (s : SparseRows) (is : IsForest s) (first links : List (List ℕ)) (k : ℕ) (firsts : (i d : ℕ) → IsSameOr (at first i d) (at s.first i d) k)
    (nexts : (i d : ℕ) → IsSameOr (at links i d) (at s.links i d) k) (none : (d : ℕ) → at links k d ≡ 0) where
  pub same_or : (i : ℕ) (ds : List ℕ) → IsSameOr (node_at first links i ds) (node_at s.first s.links i ds) k
  same_or i [] = inl refl
  same_or i (d ∷ []) = firsts i d
  same_or i (d ∷ e ∷ ds) = elim (same_or i (e ∷ ds)) [
    | inl same ↦ subst (λ n. IsSameOr (at links n d) (at s.links (node_at s.first s.links i (e ∷ ds)) d) k) (sym same)
        (nexts (node_at s.first s.links i (e ∷ ds)) d)
    | inr (was, new) ↦ inl (ap (λ n. at links n d) new ∙ none d ∙ sym (below_none s is (node_at s.first s.links i (e ∷ ds)) d was))
  ]

  pub stays : (i : ℕ) (ds : List ℕ) → node_at s.first s.links i ds ≢ 0 → node_at first links i ds ≡ node_at s.first s.links i ds
  stays i ds some = elim (same_or i ds) [ inl same ↦ same | inr (was, new) ↦ absurd (some was) ]

  -- and so are the numbers at nodes
  pub same_cell : (cells : List (List ℕ)) → ((d : ℕ) → at cells k d ≡ 0) → ((d : ℕ) → at cells 0 d ≡ 0) → (i : ℕ) (ds : List ℕ) (c : ℕ)
      → at cells (node_at first links i ds) c ≡ at cells (node_at s.first s.links i ds) c
  same_cell cells no_new no_zero i ds c = elim (same_or i ds) [
    | inl same ↦ ap (λ n. at cells n c) same
    | inr (was, new) ↦ ap (λ n. at cells n c) new ∙ no_new c ∙ sym (ap (λ n. at cells n c) was ∙ no_zero c)
  ]
