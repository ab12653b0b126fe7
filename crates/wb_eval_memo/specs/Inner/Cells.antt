-- Cells that hold a value, and those that have the place of one.
use Rattle.std.specs.Prelude.{◌≡◌, List, [], ◌∷◌, ◌++◌, ◌⊎◌, Some, length}
use Rattle.wb_values.specs.declared.value.Value.{Value}
use Rattle.wb_eval_memo.specs.Slots.{known_in}
use Rattle.wb_eval_memo.specs.declared.cell.Cell.{Cell}
use Rattle.wb_eval_memo.specs.declared.cell.Cell.TheVariants as cell

-- the cell holds its value whole
abbrev pub IsSmall : Cell → Type 0
IsSmall (cell.Large place) = ⊥
IsSmall other = Unit {0}

-- the cell holds this value
abbrev pub Holds : Value → Cell → Type 0
Holds value c = IsSmall c × (known_in [] c ≡ Some value)

-- the cell is that of the value at the end of the large ones
abbrev pub IsPlaced : List Value → List Value → Value → Cell → Type 0
IsPlaced old new value c = (c ≡ cell.Large (length old)) × (new ≡ old ++ value ∷ [])

-- the cell is that of the value, by itself or among the large ones
abbrev pub IsCellMade : List Value → List Value → Value → Cell → Type 0
IsCellMade old new value c = (Holds value c × (new ≡ old)) ⊎ IsPlaced old new value c
