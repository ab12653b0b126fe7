-- How rows lie in one list.
use Rattle.std.specs.Prelude.{◌≡◌, ◌≢◌, ◌≤◌, ◌+◌, ◌⊎◌, ℕ, List, Some, length, map, slice_get, take, drop}
use Rattle.wb_eval_rows.specs.declared.rows.Row.{Row}

-- the numbers of a row
abbrev pub row_of : List ℕ → Row → List ℕ
row_of numbers r = take r.width (drop r.first numbers)

-- the rows
abbrev pub rows_in : List ℕ → List Row → List (List ℕ)
rows_in numbers rows = map (row_of numbers) rows

-- no number is in both
abbrev pub AreApart : Row → Row → Type 0
AreApart r s = (r.first + r.width ≤ s.first) ⊎ (s.first + s.width ≤ r.first)

-- each row lies in the list, and no two have a number in common
pub record IsLaid (numbers : List ℕ) (rows : List Row) : Type 0 where
  pub within : (i : ℕ) (r : Row) → slice_get rows i ≡ Some r → r.first + r.width ≤ length numbers
  pub apart : (i j : ℕ) (r s : Row) → slice_get rows i ≡ Some r → slice_get rows j ≡ Some s → i ≢ j → AreApart r s
