-- Numbers that are marked.
use Rattle.std.specs.Prelude.{◌≡◌, ℕ, Bool, true, List, Some, slice_get}

-- the number is marked
abbrev pub IsMarked : List Bool → ℕ → Type 0
IsMarked flags k = slice_get flags k ≡ Some true
