-- The values that cells stand for, where those that don't fit into a cell lie in a list of large values beside them.
use Rattle.std.specs.Prelude.{◌≡◌, ℕ, suc, ◌≤◌, ◌+◌, ◌*◌, List, [], ◌∷◌, map, take, length, false, slice_index_or}
use Rattle.wb_values.specs.declared.value.Value.{Value}
use Rattle.wb_values.specs.declared.value.Value.TheVariants as value
use Rattle.wb_values.specs.declared.cell.Cell.{Cell}
use Rattle.wb_values.specs.declared.cell.Cell.TheVariants as cell

-- the place that its high part and its low one stand for
abbrev pub place_of : ℕ → ℕ → ℕ
place_of high low = high * 4294967296 + low

-- the value that a cell stands for, beside these large values
abbrev pub value_of : List Value → Cell → Value
value_of large (cell.Tree number) = value.Tree (record { 0 = number })
value_of large (cell.Int number) = value.Int number
value_of large (cell.Bool truth) = value.Bool truth
value_of large (cell.Text count bytes) = value.Text (take count bytes)
value_of large (cell.Large high low) = slice_index_or large (place_of high low) (value.Bool false)

-- the values that cells stand for
abbrev pub values_of : List Cell → List Value → List Value
values_of cells large = map (value_of large) cells

-- a text lies in its cell, and a large value is the one of this number
abbrev pub IsCell : ℕ → Cell → Type 0
IsCell number (cell.Tree tree) = Unit {0}
IsCell number (cell.Int small) = Unit {0}
IsCell number (cell.Bool truth) = Unit {0}
IsCell number (cell.Text count bytes) = count ≤ length bytes
IsCell number (cell.Large high low) = place_of high low ≡ number

-- how many large values there are after a cell, where there were so many before
abbrev pub count_after : ℕ → Cell → ℕ
count_after number (cell.Tree tree) = number
count_after number (cell.Int small) = number
count_after number (cell.Bool truth) = number
count_after number (cell.Text count bytes) = number
count_after number (cell.Large high low) = suc number

-- the large values of the cells are those from one number to another, each of one cell and in the order of the cells
abbrev pub ArePacked : ℕ → List Cell → ℕ → Type 0
ArePacked start [] end = start ≡ end
ArePacked start (c ∷ cs) end = IsCell start c × ArePacked (count_after start c) cs end
