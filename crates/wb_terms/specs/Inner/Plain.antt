-- Texts whose bytes stand for themselves in a string.
use Rattle.std.specs.Prelude.{◌≢◌, ◌≤◌, ℕ, List, All}

-- the byte is printed as itself
pub record IsPlain (b : ℕ) : Type 0 where
  pub from : 32 ≤ b
  pub to : b ≤ 126
  pub no_quote : b ≢ 34
  pub no_backslash : b ≢ 92

-- each byte is
abbrev pub ArePlain : List ℕ → Type 0
ArePlain text = All IsPlain text
