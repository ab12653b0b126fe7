-- What the standard operations give, in whole numbers: the code is 1 outside 64 bits, 2 for a zero divisor, 3 for a text that is no
-- number, and 4 for a text that is too long.
use Rattle.std.specs.Prelude.{◌^◌, ◌&&◌, ℕ, zero, suc, ℤ, pos, negsuc, Bool, true, false, if◌then◌else◌, int_div, int_rem}
use Rattle.std.specs.Prelude.{List, ◌++◌, length, drop, nat_lt, nat_le}
use Rattle.std.specs.Char.{is_ascii_digit}
use Rattle.std.specs.List.{list_all}
use Rattle.std.specs.Str.Parse.{digits_value, starts_with_minus}
use Rattle.wb_base.specs.Decimal.{signed}
use Rattle.wb_values.specs.Tree.{int, text}
use Rattle.wb_operations.specs.Given.{Given, gives, fails}

-- the number is from -2^63 to 2^63 - 1
abbrev pub is_inside : ℤ → Bool
is_inside (pos n) = nat_lt n (2 ^ 63)
is_inside (negsuc n) = nat_lt n (2 ^ 63)

-- the number, where it is inside
abbrev pub inside : ℤ → Given
inside z = if is_inside z then gives (int z) else fails 1

-- what is given, unless the divisor is zero
abbrev pub divided : ℤ → Given → Given
divided (pos zero) given = fails 2
divided (pos (suc n)) given = given
divided (negsuc n) given = given

-- the quotient toward zero, where it is inside
abbrev pub quotient : ℤ → ℤ → Given
quotient x y = divided y (inside (int_div x y))

-- what is left by the quotient toward zero, with the sign of the first, where the quotient is inside
abbrev pub remainder : ℤ → ℤ → Given
remainder x y = divided y (if is_inside (int_div x y) then gives (int (int_rem x y)) else fails 1)

-- the two texts one after the other, up to 16,777,216 bytes
abbrev pub joined : List ℕ → List ℕ → Given
joined x y = if nat_le (length (x ++ y)) 16777216 then gives (text (x ++ y)) else fails 4

-- the number, where it is inside; the fault is that of a text
abbrev pub inside_or_none : ℤ → Given
inside_or_none z = if is_inside z then gives (int z) else fails 3

-- one or more decimal digits and nothing else
abbrev pub is_numeral : List ℕ → Bool
is_numeral digits = nat_lt 0 (length digits) && list_all is_ascii_digit digits

-- the number with this sign that the digits write, where they are digits and it is inside
abbrev pub written : Bool → List ℕ → Given
written negative digits = if is_numeral digits then inside_or_none (signed negative (digits_value 10 digits)) else fails 3

-- the number that a text writes: an optional `-` and digits
abbrev pub number_of : List ℕ → Given
number_of x = if starts_with_minus x then written true (drop 1 x) else written false x
