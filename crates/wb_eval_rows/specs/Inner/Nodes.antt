-- Nodes that are found, or made where there is none.
use Rattle.std.specs.Prelude.{◌≡◌, ◌≢◌, ◌≤◌, ◌⊎◌, ℕ, suc, List}
use Rattle.wb_eval_rows.specs.Rows.{at}
use Rattle.wb_eval_rows.specs.Sparse.{node_of, number_at, IsForest}
use Rattle.wb_eval_rows.specs.declared.sparse.SparseRows.{SparseRows}

-- the node was there, and nothing has changed
pub record IsFound (old new : List (List ℕ)) (count counted row digit node : ℕ) : Type 0 where
  pub rows : new ≡ old
  pub counts : counted ≡ count
  pub is : node ≡ at old row digit
  pub some : node ≢ 0

-- it was made, with the next number
pub record IsMade (old new : List (List ℕ)) (count counted row digit node : ℕ) : Type 0 where
  pub none : at old row digit ≡ 0
  pub node_is : node ≡ suc count
  pub counts : counted ≡ suc count
  pub set : at new row digit ≡ suc count
  pub columns : (other : ℕ) → other ≢ digit → at new row other ≡ at old row other
  pub rows : (i other : ℕ) → i ≢ row → at new i other ≡ at old i other

-- one or the other
abbrev pub IsPlaced : List (List ℕ) → List (List ℕ) → ℕ → ℕ → ℕ → ℕ → ℕ → Type 0
IsPlaced old new count counted row digit node = IsFound old new count counted row digit node ⊎ IsMade old new count counted row digit node

-- the node of a row for some columns is there, and all numbers are as they were
pub record IsReached (old new : SparseRows) (row block node : ℕ) : Type 0 where
  pub forest : IsForest new
  pub is : node ≡ node_of new row block
  pub some : node ≢ 0
  pub within : node ≤ new.nodes
  pub near : new.near ≡ old.near
  pub same : (i column : ℕ) → number_at new i column ≡ number_at old i column
