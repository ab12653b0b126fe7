-- Numbers by row and column.
use Rattle.std.specs.Prelude.{ℕ, List, [], slice_index_or}

-- a row, empty past the end
abbrev pub row_at : List (List ℕ) → ℕ → List ℕ
row_at rows row = slice_index_or rows row []

-- the number at a place, or 0
abbrev pub at : List (List ℕ) → ℕ → ℕ → ℕ
at rows row column = slice_index_or (row_at rows row) column 0
