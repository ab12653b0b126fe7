-- The number at the beginning of some bytes.
use Rattle.std.specs.Prelude.{◌≡◌, ℕ, ◌<◌, ◌⊎◌, List, Option, Some, None, Bool, ℤ, take, FitsSigned}
use Rattle.std.specs.Int.{w64}
use Rattle.std.specs.Str.Parse.{digits_value}
use Rattle.wb_base.specs.Decimal.{signed, digit_count}

-- the value of the digits that the bytes begin with
abbrev pub number_of : Bool → List ℕ → ℤ
number_of negative text = signed negative (digits_value 10 (take (digit_count text) text))

-- the value in range with the count of digits, or none where there is no digit or the value is out of range
abbrev pub FindsNumber : Bool → List ℕ → Option (ℤ × ℕ) → Type 0
FindsNumber negative text None = (digit_count text ≡ 0) ⊎ (¬ FitsSigned w64 (number_of negative text))
FindsNumber negative text (Some found) =
    (found.0 ≡ number_of negative text) × (found.1 ≡ digit_count text) × (0 < digit_count text) × FitsSigned w64 found.0
