-- Cells that hold a value, and those that have the place of one.
use Rattle.std.specs.Prelude.{◌≡◌, ℕ, ◌≤◌, [], length}
use Rattle.wb_values.specs.declared.value.Value.{Value}
use Rattle.wb_values.specs.declared.cell.Cell.{Cell}
use Rattle.wb_values.specs.declared.cell.Cell.TheVariants as cell
use Rattle.wb_values.specs.Packed.{value_of, place_of}

-- the cell holds its value whole
abbrev pub IsSmall : Cell → Type 0
IsSmall (cell.Tree tree) = Unit {0}
IsSmall (cell.Int small) = Unit {0}
IsSmall (cell.Bool truth) = Unit {0}
IsSmall (cell.Text count bytes) = count ≤ length bytes
IsSmall (cell.Large high low) = ⊥

-- the cell holds this value
abbrev pub Holds : Value → Cell → Type 0
Holds value c = IsSmall c × (value_of [] c ≡ value)

-- the cell is that of the large value at a place
abbrev pub IsLarge : ℕ → Cell → Type 0
IsLarge place (cell.Tree tree) = ⊥
IsLarge place (cell.Int small) = ⊥
IsLarge place (cell.Bool truth) = ⊥
IsLarge place (cell.Text count bytes) = ⊥
IsLarge place (cell.Large high low) = place_of high low ≡ place
