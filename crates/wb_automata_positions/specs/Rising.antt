-- Numbers that rise.
use Rattle.std.specs.Prelude.{◌<◌, ℕ, List, length, slice_index}

-- each number of the list is less than those after it
abbrev pub AreRising : List ℕ → Type 0
AreRising numbers = (i j : ℕ) → i < j → j < length numbers → slice_index numbers i < slice_index numbers j
