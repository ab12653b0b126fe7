-- Rows of one length in one list.
use Rattle.std.specs.Prelude.{◌≡◌, ◌+◌, ℕ, zero, suc, List, [], ◌∷◌, length, take, drop}

-- rows, each of this many numbers
pub record MatrixView : Type 0 where
  pub width : ℕ
  pub rows : List (List ℕ)

-- the first so many rows of this length
unfoldable pub rows_of : ℕ → ℕ → List ℕ → List (List ℕ)
rows_of zero width codes = []
rows_of (suc height) width codes = take width codes ∷ rows_of height width (drop width codes)

-- both matrices have this many rows, the one with room for the terminals and the end of a text
pub record AreMatrices (terminals : ℕ) (actions gotos : MatrixView) (n : ℕ) : Type 0 where
  pub width : actions.width ≡ terminals + 1
  pub actions_len : length actions.rows ≡ n
  pub gotos_len : length gotos.rows ≡ n
