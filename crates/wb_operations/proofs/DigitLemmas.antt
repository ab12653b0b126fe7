-- A numeral is all digits, and what it writes.
use Rattle.std.proofs.Common.{◌≡◌, ℕ, ◌<◌, List, Bool, true, cond, ◌&&◌, length, sym, ap, ◌∙◌}
use Rattle.std.specs.Char.{is_ascii_digit}
use Rattle.std.specs.List.{list_all}
use Rattle.std.specs.Prelude.{nat_lt}
use Rattle.std.specs.Str.Parse.{AllDigits, digits_value}
use Rattle.wb_lemmas.proofs.Booleans.{and_right}
use Rattle.wb_lemmas.proofs.Digits.{digits_pass}
use Rattle.wb_base.specs.Decimal.{signed}
use Rattle.wb_operations.specs.Given.{fails}
use Rattle.wb_operations.specs.Rows.{is_numeral, inside_or_none, written}

-- a numeral is all digits
pub numeral_digits : (ds : List ℕ) → is_numeral ds ≡ true → AllDigits 10 ds
numeral_digits ds is = digits_pass ds (and_right (nat_lt 0 (length ds)) (list_all is_ascii_digit ds) is)

-- what a numeral writes
pub written_numeral : (negative : Bool) (ds : List ℕ) (size : ℕ) → is_numeral ds ≡ true → size ≡ digits_value 10 ds
    → written negative ds ≡ inside_or_none (signed negative size)
written_numeral negative ds size is e =
    ap (λ (b : Bool). cond b (inside_or_none (signed negative (digits_value 10 ds))) (fails 3)) is ∙ ap
    (λ (n : ℕ). inside_or_none (signed negative n)) (sym e)
