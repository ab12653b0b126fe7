-- The longest token at the beginning of some bytes.
use Rattle.std.specs.Prelude.{ℕ, ◌<◌, ◌≤◌, ◌==◌, ◌||◌, List, Option, Some, None, length, take, if◌then◌else◌}
use Rattle.std.specs.Char.{is_ascii_digit}
use Rattle.wb_text_tokens.specs.Spelling.{Spells, HasValueInRange}
use Rattle.wb_base.specs.Identifiers.{is_letter}
use Rattle.wb_text_tokens.specs.declared.token.Dialect.{Dialect}
use Rattle.wb_text_tokens.specs.declared.token.Token.{Token}
use Rattle.wb_text_tokens.specs.declared.token_class.TokenClass.{TokenClass}
use Rattle.wb_text_tokens.specs.declared.token_class.TokenClass.TheVariants.{Letter, Number, Quote, Slash, Mark}

-- the longest token at the beginning has so many bytes
pub record IsLongest (dialect : Dialect) (text : List ℕ) (token : Token) (count : ℕ) : Type 0 where
  pub some : 0 < count
  pub within : count ≤ length text
  pub spelled : Spells dialect token (take count text)
  pub in_range : HasValueInRange token
  pub longest : (other : Token) (more : ℕ) → count < more → more ≤ length text → ¬ Spells dialect other (take more text)

-- the longest token at the beginning with its count of bytes, or none where there is none
abbrev pub FindsLongest : Dialect → List ℕ → Option (Token × ℕ) → Type 0
FindsLongest dialect text None = (token : Token) (count : ℕ) → ¬ IsLongest dialect text token count
FindsLongest dialect text (Some found) = IsLongest dialect text found.0 found.1

-- what a token that begins with the byte can be
abbrev pub first_class : ℕ → TokenClass
first_class b =
    if is_letter b then Letter else if is_ascii_digit b || b == 45 then Number else if b == 34 then Quote
    else if b == 47 then Slash else Mark
