-- Numbers in decimal digits.
use Rattle.std.specs.Prelude.{◌≡◌, ◌≤◌, ℕ, List}
use Rattle.std.specs.Str.Parse.{IsNumeral, digits_value}

-- the text is decimal digits without a sign, of this number, which is from least to most
pub record IsNumberFrom (text : List ℕ) (least most number : ℕ) : Type 0 where
  pub digits : IsNumeral 10 text
  pub is : number ≡ digits_value 10 text
  pub low : least ≤ number
  pub high : number ≤ most
