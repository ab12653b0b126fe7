-- Rows of which little is written: the numbers of a row's first sixteen columns, and a radix tree for the others, with nodes of sixteen.
use Rattle.std.specs.Prelude.{◌≡◌, ◌≢◌, ◌≤◌, ◌<◌, ◌⊎◌, ◌/◌, ◌%◌, ℕ, zero, suc, List, [], ◌∷◌, nat_lt, if◌then◌else◌}
use Rattle.wb_eval_rows.specs.Rows.{at}
use Rattle.wb_eval_rows.specs.declared.sparse.SparseRows.{SparseRows}

-- the digits of a number to the base sixteen, the last first, but no more than so many
abbrev pub digits_in : ℕ → ℕ → List ℕ
digits_in zero n = []
digits_in (suc most) zero = []
digits_in (suc most) (suc n) = suc n % 16 ∷ digits_in most (suc n / 16)

-- its digits
unfoldable pub digits : ℕ → List ℕ
digits n = digits_in n n

-- the node of a row to which these digits lead, the last first, or 0
abbrev pub node_at : List (List ℕ) → List (List ℕ) → ℕ → List ℕ → ℕ
node_at first links row [] = 0
node_at first links row (d ∷ []) = at first row d
node_at first links row (d ∷ e ∷ ds) = at links (node_at first links row (e ∷ ds)) d

-- the node of a row for the columns that are so many times sixteen
abbrev pub node_of : SparseRows → ℕ → ℕ → ℕ
node_of s row block = node_at s.first s.links row (digits block)

-- the number at a place, or 0
abbrev pub number_at : SparseRows → ℕ → ℕ → ℕ
number_at s row column = if nat_lt column 16 then at s.near row column else at s.cells (node_of s row (column / 16)) (column % 16)

-- the nodes are a forest: one place at most leads to each, and nothing is below or at what is no node
pub record IsForest (s : SparseRows) : Type 0 where
  pub once_first : (i j d e k : ℕ) → at s.first i d ≡ suc k → at s.first j e ≡ suc k → (i ≡ j) × (d ≡ e)
  pub once_links : (i j d e k : ℕ) → at s.links i d ≡ suc k → at s.links j e ≡ suc k → (i ≡ j) × (d ≡ e)
  pub apart : (i j d e k : ℕ) → at s.first i d ≡ suc k → at s.links j e ≢ suc k
  pub within_first : (i d : ℕ) → at s.first i d ≤ s.nodes
  pub within_links : (i d : ℕ) → at s.links i d ≤ s.nodes
  pub no_links : (i d : ℕ) → (i ≡ 0) ⊎ (s.nodes < i) → at s.links i d ≡ 0
  pub no_cells : (i d : ℕ) → (i ≡ 0) ⊎ (s.nodes < i) → at s.cells i d ≡ 0
