-- A meaning whose operations differ by their number alone.
use Rattle.std.specs.Prelude.{◌+ℤ◌, ℕ, zero, suc, ℤ, pos, List, if◌then◌else◌}
use Rattle.std.specs.Ordering.{int_eq}
use Rattle.wb_values.specs.Tree.{Plain}
use Rattle.wb_operations.specs.Given.{Given, fails}
use Rattle.wb_operations.specs.Takes.{of_ints, of_text}
use Rattle.wb_operations.specs.Rows.{inside, number_of}

-- the sum, with fault 9 where the second number is 4
abbrev pub odd_sum : ℤ → ℤ → Given
odd_sum x y = if int_eq y (pos 4) then fails 9 else inside (x +ℤ y)

-- the first operation adds, and each other reads a number
abbrev pub odd : ℕ → List Plain → Given
odd zero = of_ints odd_sum
odd (suc number) = of_text number_of
