-- Lists of lists.
use Rattle.std.specs.Prelude.{ℕ, List, [], slice_index_or}

-- the list at a place, and the empty one where there is none
abbrev pub row : List (List ℕ) → ℕ → List ℕ
row rows a = slice_index_or rows a []
