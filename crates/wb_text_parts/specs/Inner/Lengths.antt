-- How far two texts are the same, and how far a number goes.
use Rattle.std.specs.Prelude.{◌≡◌, ◌≢◌, ◌≤◌, ◌<◌, ◌+◌, ◌*◌, ◌-◌, ◌^◌, ℕ, List, ◌∷◌, ◌++◌, length, take, drop}
use Rattle.std.specs.Fmt.{decimal}
use Rattle.wb_text_parts.specs.Parts.{IsNoDigit, IsSmall}

-- the two texts are the same so far, and then they differ or one of them ends
pub record AreSameUpTo (text bytes : List ℕ) (at : ℕ) : Type 0 where
  pub within : at ≤ length bytes
  pub inside : at ≤ length text
  pub split : text ≡ take at bytes ++ drop at text
  pub differ : (b c : ℕ) (after more : List ℕ) → drop at text ≡ b ∷ after → drop at bytes ≡ c ∷ more → b ≢ c

-- the text doesn't begin with a digit
abbrev pub HasNoDigit : List ℕ → Type 0
HasNoDigit text = (b : ℕ) (after : List ℕ) → text ≡ b ∷ after → IsNoDigit b

-- the byte is a digit that can be after those of the number: it has no leading zero, and with the digit it is below 2^64
pub record CanFollow (value byte : ℕ) : Type 0 where
  pub some : value ≢ 0
  pub low : 48 ≤ byte
  pub high : byte ≤ 57
  pub small : value * 10 + (byte - 48) < 2 ^ 64

-- the number is at the beginning, and no digit that is there can follow it
pub record IsLongest (text : List ℕ) (value at : ℕ) : Type 0 where
  pub small : IsSmall value
  pub within : at ≤ length text
  pub split : text ≡ decimal value ++ drop at text
  pub last : (b : ℕ) (after : List ℕ) → drop at text ≡ b ∷ after → ¬ CanFollow value b
