-- A byte of a text.
use Rattle.std.specs.Prelude.{◌≡◌, ℕ, List, Some, slice_get}

-- the byte at this place of the text
abbrev pub IsByteAt : List ℕ → ℕ → ℕ → Type 0
IsByteAt text at byte = slice_get text at ≡ Some byte
