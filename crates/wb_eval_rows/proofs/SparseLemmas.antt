-- Numbers of sparse rows, as a node is made and a number is written.
use Rattle.std.proofs.Common.{◌≡◌, ◌≢◌, ◌∙◌, ◌⊎◌, ◌≤◌, ◌<◌, ◌/◌, ◌%◌, inl, inr, ℕ, zero, suc, List, [], ◌∷◌, refl, sym, ap, subst, arith}
use Rattle.std.proofs.lemmas.Bool.{cases_eq, cases_lt, cond_below, cond_above}
use Rattle.wb_eval_rows.specs.Rows.{at}
use Rattle.wb_eval_rows.specs.Sparse.{digits, node_at, node_of, number_at, IsForest}
use Rattle.wb_eval_rows.specs.Inner.Nodes.{IsFound, IsMade, IsPlaced, IsReached}
use Rattle.wb_eval_rows.specs.declared.sparse.SparseRows.{SparseRows}
use Rattle.wb_eval_rows.proofs.DigitLemmas.{one_number, one_column, node_near, node_far}
use Rattle.wb_eval_rows.proofs.NodeLemmas.{one_way, IsSameOr, stays, same_cell}

-- the number of a near column, and of a far one
pub number_near : (s : SparseRows) (row column : ℕ) → column < 16 → number_at s row column ≡ at s.near row column
number_near s row column less = sym (cond_below column 16 (at s.near row column) (at s.cells (node_of s row (column / 16)) (column % 16)) less)

pub number_far : (s : SparseRows) (row column : ℕ) → 16 ≤ column → number_at s row column ≡ at s.cells (node_of s row (column / 16)) (column % 16)
number_far s row column le =
    sym (cond_above column 16 (at s.near row column) (at s.cells (node_of s row (column / 16)) (column % 16))
    (at s.cells (node_of s row (column / 16)) (column % 16)) le refl)

-- two with the same near numbers, and the same at the nodes of each row, have the same numbers
same_numbers : (old new : SparseRows) → new.near ≡ old.near
    → ((i block c : ℕ) → at new.cells (node_of new i block) c ≡ at old.cells (node_of old i block) c)
    → (i column : ℕ) → number_at new i column ≡ number_at old i column
same_numbers old new near cells i column = elim (cases_lt column 16) [
  | inl less ↦ number_near new i column less ∙ ap (λ rows. at rows i column) near ∙ sym (number_near old i column less)
  | inr le ↦ number_far new i column le ∙ cells i (column / 16) (column % 16) ∙ sym (number_far old i column le)
]

-- a place is as it was or leads to the new node
made_cases : {old new : List (List ℕ)} {count counted row digit node : ℕ} → IsMade old new count counted row digit node
    → (i d : ℕ) → ((i ≡ row) × (d ≡ digit)) ⊎ (at new i d ≡ at old i d)
made_cases {old = old} {new = new} {row = row} {digit = digit} m i d = elim (cases_eq i row) [
  | inl e ↦ elim (cases_eq d digit) [
    | inl f ↦ inl (e, f)
    | inr other ↦ inr (subst (λ z. at new z d ≡ at old z d) (sym e) (m.columns d other))
  ]
  | inr other ↦ inr (m.rows i d other)
]

made_or : {old new : List (List ℕ)} {count counted row digit node : ℕ} → IsMade old new count counted row digit node
    → (i d : ℕ) → IsSameOr (at new i d) (at old i d) (suc count)
made_or {old = old} {new = new} {row = row} {digit = digit} m i d = elim (made_cases m i d) [
  | inl (e, f) ↦ inr (
    ap (λ z. at old z d) e ∙ ap (at old row) f ∙ m.none,
    ap (λ z. at new z d) e ∙ ap (at new row) f ∙ m.set,
  )
  | inr same ↦ inl same
]

-- the new number is at the new place alone, and others are where they were
made_once : {old new : List (List ℕ)} {count counted row digit node : ℕ} → IsMade old new count counted row digit node
    → ((i d : ℕ) → at old i d ≤ count)
    → ((i j d e k : ℕ) → at old i d ≡ suc k → at old j e ≡ suc k → (i ≡ j) × (d ≡ e))
    → (i j d e k : ℕ) → at new i d ≡ suc k → at new j e ≡ suc k → (i ≡ j) × (d ≡ e)
made_once {old = old} {new = new} {count = count} {row = row} {digit = digit} m within once i j d e k p q = elim (made_cases m i d) [
  | inl (a, b) ↦ elim (made_cases m j e) [
    | inl (c, f) ↦ (a ∙ sym c, b ∙ sym f)
    | inr same ↦ absurd (
        let h = within j e in
        let n : suc k ≡ suc count = sym p ∙ ap (λ z. at new z d) a ∙ ap (at new row) b ∙ m.set in
        let o = sym same ∙ q in omega (arith, h, n, o))
  ]
  | inr same ↦ elim (made_cases m j e) [
    | inl (c, f) ↦ absurd (
        let h = within i d in
        let n : suc k ≡ suc count = sym q ∙ ap (λ z. at new z e) c ∙ ap (at new row) f ∙ m.set in
        let o = sym same ∙ p in omega (arith, h, n, o))
    | inr other ↦ once i j d e k (sym same ∙ p) (sym other ∙ q)
  ]
]

made_within : {old new : List (List ℕ)} {count counted row digit node : ℕ} → IsMade old new count counted row digit node
    → ((i d : ℕ) → at old i d ≤ count) → (i d : ℕ) → at new i d ≤ suc count
made_within m within i d = elim (made_or m i d) [
  | inl same ↦ let h = within i d in omega (arith, same, h)
  | inr (was, is) ↦ omega (arith, is)
]

-- what leads to a node leads to no other, also where one of two was made
made_apart : {old new : List (List ℕ)} {count counted row digit node : ℕ} → IsMade old new count counted row digit node
    → (others : List (List ℕ)) → ((i d : ℕ) → at others i d ≤ count)
    → ((i j d e k : ℕ) → at old i d ≡ suc k → at others j e ≢ suc k)
    → (i j d e k : ℕ) → at new i d ≡ suc k → at others j e ≢ suc k
made_apart {old = old} {new = new} {count = count} m others within apart i j d e k p q = elim (made_or m i d) [
  | inl same ↦ apart i j d e k (sym same ∙ p) q
  | inr (was, is) ↦ let h = within j e in let n = sym is ∙ p in omega (arith, h, n, q)
]

-- with other first rows, and with other links
abbrev pub with_first : SparseRows → List (List ℕ) → ℕ → SparseRows
with_first s first nodes = record { near = s.near; first = first; links = s.links; cells = s.cells; nodes = nodes }

abbrev pub with_links : SparseRows → List (List ℕ) → ℕ → SparseRows
with_links s links nodes = record { near = s.near; first = s.first; links = links; cells = s.cells; nodes = nodes }

module _ (s : SparseRows) (is : IsForest s) where
  -- the same rows again
  same_forest : (new : SparseRows) → new.first ≡ s.first → new.links ≡ s.links → new.cells ≡ s.cells → new.nodes ≡ s.nodes → IsForest new
  same_forest new first links cells nodes = record {
    once_first = λ i j d e k p q. is.once_first i j d e k (sym (ap (λ rows. at rows i d) first) ∙ p) (sym (ap (λ rows. at rows j e) first) ∙ q);
    once_links = λ i j d e k p q. is.once_links i j d e k (sym (ap (λ rows. at rows i d) links) ∙ p) (sym (ap (λ rows. at rows j e) links) ∙ q);
    apart = λ i j d e k p q. is.apart i j d e k (sym (ap (λ rows. at rows i d) first) ∙ p) (sym (ap (λ rows. at rows j e) links) ∙ q);
    within_first = λ i d. let h = is.within_first i d in let r = ap (λ rows. at rows i d) first in omega (arith, h, r, nodes);
    within_links = λ i d. let h = is.within_links i d in let r = ap (λ rows. at rows i d) links in omega (arith, h, r, nodes);
    no_links = λ i d no. ap (λ rows. at rows i d) links ∙ is.no_links i d (subst (λ n. (i ≡ 0) ⊎ (n < i)) nodes no);
    no_cells = λ i d no. ap (λ rows. at rows i d) cells ∙ is.no_cells i d (subst (λ n. (i ≡ 0) ⊎ (n < i)) nodes no);
  }

  after : (i n : ℕ) → (i ≡ 0) ⊎ (suc n < i) → (i ≡ 0) ⊎ (n < i)
  after i n (inl e) = inl e
  after i n (inr less) = inr (omega (arith, less))

  -- nothing is below the next node, or at it
  next_links : (d : ℕ) → at s.links (suc s.nodes) d ≡ 0
  next_links d = is.no_links (suc s.nodes) d (inr (omega arith))

  next_cells : (d : ℕ) → at s.cells (suc s.nodes) d ≡ 0
  next_cells d = is.no_cells (suc s.nodes) d (inr (omega arith))

  -- a node is found or made at the first digit
  module _ (first : List (List ℕ)) (nodes row block node : ℕ) (some : 0 < block) (less : block < 16) where
    found_first : IsFound s.first first s.nodes nodes row block node → IsReached s (with_first s first nodes) row block node
    found_first f = record {
      forest = same_forest (with_first s first nodes) f.rows refl refl f.counts;
      is = f.is ∙ sym (ap (λ rows. at rows row block) f.rows) ∙ sym (node_near first s.links row block some less);
      some = f.some;
      within = let h = is.within_first row block in let e = f.is in let n = f.counts in omega (arith, h, e, n);
      near = refl;
      same = same_numbers s (with_first s first nodes) refl (λ i b c. ap (λ rows. at s.cells (node_at rows s.links i (digits b)) c) f.rows);
    }

    made_first : IsMade s.first first s.nodes nodes row block node → IsReached s (with_first s first nodes) row block node
    made_first m = record {
      forest = record {
        once_first = made_once m is.within_first is.once_first;
        once_links = is.once_links;
        apart = made_apart m s.links is.within_links is.apart;
        within_first = λ i d. let h = made_within m is.within_first i d in let n = m.counts in omega (arith, h, n);
        within_links = λ i d. let h = is.within_links i d in let n = m.counts in omega (arith, h, n);
        no_links = λ i d no. is.no_links i d (after i s.nodes (subst (λ n. (i ≡ 0) ⊎ (n < i)) m.counts no));
        no_cells = λ i d no. is.no_cells i d (after i s.nodes (subst (λ n. (i ≡ 0) ⊎ (n < i)) m.counts no));
      };
      is = m.node_is ∙ sym m.set ∙ sym (node_near first s.links row block some less);
      some = λ e. let n = sym m.node_is ∙ e in cc n;
      within = let n = m.counts in let e = m.node_is in omega (arith, n, e);
      near = refl;
      same = same_numbers s (with_first s first nodes) refl
          (λ i b c. same_cell s is first s.links (suc s.nodes) (made_or m) (λ j d. inl refl) next_links s.cells next_cells
          (λ d. is.no_cells 0 d (inl refl)) i (digits b) c);
    }

    pub placed_first : IsPlaced s.first first s.nodes nodes row block node → IsReached s (with_first s first nodes) row block node
    placed_first (inl f) = found_first f
    placed_first (inr m) = made_first m

-- a node is found or made below one that was reached
module _ (old s : SparseRows) (links : List (List ℕ)) (nodes row block above node : ℕ) (le : 16 ≤ block)
    (up : IsReached old s row (block / 16) above) where
  found_below : IsFound s.links links s.nodes nodes above (block % 16) node → IsReached old (with_links s links nodes) row block node
  found_below f = record {
    forest = same_forest s up.forest (with_links s links nodes) refl f.rows refl f.counts;
    is =
        f.is ∙ sym (ap (λ rows. at rows above (block % 16)) f.rows)
        ∙ ap (λ n. at links n (block % 16)) (up.is ∙ sym (ap (λ rows. node_at s.first rows row (digits (block / 16))) f.rows))
        ∙ sym (node_far s.first links row block le);
    some = f.some;
    within = let h = up.forest.within_links above (block % 16) in let e = f.is in let n = f.counts in omega (arith, h, e, n);
    near = up.near;
    same = λ i column.
        same_numbers s (with_links s links nodes) refl (λ j b c. ap (λ rows. at s.cells (node_at s.first rows j (digits b)) c) f.rows) i column
        ∙ up.same i column;
  }

  module _ (m : IsMade s.links links s.nodes nodes above (block % 16) node) where
    none_below : (d : ℕ) → at links (suc s.nodes) d ≡ 0
    none_below d =
        m.rows (suc s.nodes) d (λ e. let h = up.within in omega (arith, h, e)) ∙ next_links s up.forest d

    above_stays : node_of (with_links s links nodes) row (block / 16) ≡ above
    above_stays =
        stays s up.forest s.first links (suc s.nodes) (λ j d. inl refl) (made_or m) none_below row (digits (block / 16))
        (λ e. up.some (up.is ∙ e))
        ∙ sym up.is

    none_at : (i d : ℕ) → (i ≡ 0) ⊎ (suc s.nodes < i) → at links i d ≡ 0
    none_at i d outside =
        m.rows i d (λ e. elim outside [ inl zero_is ↦ up.some (sym e ∙ zero_is) | inr less ↦ let h = up.within in omega (arith, less, h, e) ])
        ∙ up.forest.no_links i d (after s up.forest i s.nodes outside)

    made_below : IsReached old (with_links s links nodes) row block node
    made_below = record {
      forest = record {
        once_first = up.forest.once_first;
        once_links = made_once m up.forest.within_links up.forest.once_links;
        apart = λ i j d e k p q. made_apart m s.first up.forest.within_first (λ x y f g n r t. up.forest.apart y x g f n t r) j i e d k q p;
        within_first = λ i d. let h = up.forest.within_first i d in let n = m.counts in omega (arith, h, n);
        within_links = λ i d. let h = made_within m up.forest.within_links i d in let n = m.counts in omega (arith, h, n);
        no_links = λ i d no. none_at i d (subst (λ n. (i ≡ 0) ⊎ (n < i)) m.counts no);
        no_cells = λ i d no. up.forest.no_cells i d (after s up.forest i s.nodes (subst (λ n. (i ≡ 0) ⊎ (n < i)) m.counts no));
      };
      is =
          m.node_is ∙ sym m.set ∙ sym (ap (λ n. at links n (block % 16)) above_stays) ∙ sym (node_far s.first links row block le);
      some = λ e. let n = sym m.node_is ∙ e in cc n;
      within = let n = m.counts in let e = m.node_is in omega (arith, n, e);
      near = up.near;
      same = λ i column.
          same_numbers s (with_links s links nodes) refl
          (λ j b c. same_cell s up.forest s.first links (suc s.nodes) (λ x d. inl refl) (made_or m) none_below s.cells (next_cells s up.forest)
          (λ d. up.forest.no_cells 0 d (inl refl)) j (digits b) c) i column
          ∙ up.same i column;
    }

  pub placed_below : IsPlaced s.links links s.nodes nodes above (block % 16) node → IsReached old (with_links s links nodes) row block node
  placed_below (inl f) = found_below f
  placed_below (inr m) = made_below m

-- a number is written in a near column
module _ (s : SparseRows) (is : IsForest s) (near : List (List ℕ)) (row column number : ℕ) (less : column < 16)
    (set : at near row column ≡ number) (columns : (other : ℕ) → other ≢ column → at near row other ≡ at s.near row other)
    (rows : (i other : ℕ) → i ≢ row → at near i other ≡ at s.near i other) where
  abbrev pub with_near : SparseRows
  with_near = record { near = near; first = s.first; links = s.links; cells = s.cells; nodes = s.nodes }

  pub near_forest : IsForest with_near
  near_forest = same_forest s is with_near refl refl refl refl

  pub near_set : number_at with_near row column ≡ number
  near_set = number_near with_near row column less ∙ set

  near_kept : (i other : ℕ) → at near i other ≡ at s.near i other → number_at with_near i other ≡ number_at s i other
  near_kept i other same = elim (cases_lt other 16) [
    | inl below ↦ number_near with_near i other below ∙ same ∙ sym (number_near s i other below)
    | inr le ↦ number_far with_near i other le ∙ sym (number_far s i other le)
  ]

  pub near_columns : (other : ℕ) → other ≢ column → number_at with_near row other ≡ number_at s row other
  near_columns other differs = near_kept row other (columns other differs)

  pub near_rows : (i other : ℕ) → i ≢ row → number_at with_near i other ≡ number_at s i other
  near_rows i other differs = near_kept i other (rows i other differs)

-- a number is written at a node that was reached
module _ (old s : SparseRows) (cells : List (List ℕ)) (row column node number : ℕ) (le : 16 ≤ column)
    (up : IsReached old s row (column / 16) node) (set : at cells node (column % 16) ≡ number)
    (columns : (other : ℕ) → other ≢ column % 16 → at cells node other ≡ at s.cells node other)
    (rows : (i other : ℕ) → i ≢ node → at cells i other ≡ at s.cells i other) where
  abbrev pub with_cells : SparseRows
  with_cells = record { near = s.near; first = s.first; links = s.links; cells = cells; nodes = s.nodes }

  pub far_forest : IsForest with_cells
  far_forest = record {
    once_first = up.forest.once_first;
    once_links = up.forest.once_links;
    apart = up.forest.apart;
    within_first = up.forest.within_first;
    within_links = up.forest.within_links;
    no_links = up.forest.no_links;
    no_cells = λ i d no.
        rows i d (λ e. elim no [ inl zero_is ↦ up.some (sym e ∙ zero_is) | inr less ↦ let h = up.within in omega (arith, less, h, e) ])
        ∙ up.forest.no_cells i d no;
  }

  pub far_set : number_at with_cells row column ≡ number
  far_set = number_far with_cells row column le ∙ sym (ap (λ n. at cells n (column % 16)) up.is) ∙ set

  -- at another place
  cell_kept : (i other : ℕ) → 16 ≤ other → (i ≢ row) ⊎ (other ≢ column)
      → at cells (node_of s i (other / 16)) (other % 16) ≡ at s.cells (node_of s i (other / 16)) (other % 16)
  cell_kept i other far differs = elim (cases_eq (node_of s i (other / 16)) node) [
    | inr elsewhere ↦ rows (node_of s i (other / 16)) (other % 16) elsewhere
    | inl here ↦ elim (cases_eq (other % 16) (column % 16)) [
      | inr e ↦ subst (λ n. at cells n (other % 16) ≡ at s.cells n (other % 16)) (sym here) (columns (other % 16) e)
      | inl digit ↦ absurd (one_place node up.some here (sym up.is) digit)
    ]
  ] where
    one_place : (n : ℕ) → n ≢ 0 → node_of s i (other / 16) ≡ n → node_of s row (column / 16) ≡ n → other % 16 ≡ column % 16 → ⊥
    one_place zero none here there digit = none refl
    one_place (suc k) some here there digit =
        let (same_row, same) = one_way s up.forest i row (digits (other / 16)) (digits (column / 16)) k here there in
        let same_column = one_column other column (one_number (other / 16) (column / 16) same) digit in
        elim differs [ inl d ↦ d same_row | inr d ↦ d same_column ]

  far_kept : (i other : ℕ) → (i ≢ row) ⊎ (other ≢ column) → number_at with_cells i other ≡ number_at old i other
  far_kept i other differs = elim (cases_lt other 16) [
    | inl below ↦ number_near with_cells i other below ∙ sym (number_near s i other below) ∙ up.same i other
    | inr far ↦ number_far with_cells i other far ∙ cell_kept i other far differs ∙ sym (number_far s i other far) ∙ up.same i other
  ]

  pub far_columns : (other : ℕ) → other ≢ column → number_at with_cells row other ≡ number_at old row other
  far_columns other differs = far_kept row other (inr differs)

  pub far_rows : (i other : ℕ) → i ≢ row → number_at with_cells i other ≡ number_at old i other
  far_rows i other differs = far_kept i other (inl differs)
