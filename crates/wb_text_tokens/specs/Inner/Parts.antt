-- The first part of the body of a string, and of the body of a regular expression.
use Rattle.std.specs.Prelude.{◌≢◌, ℕ, ◌+◌, ◌*◌, ◌==◌, ◌||◌, List, [], ◌∷◌, ◌++◌, Option, Some, None, if◌then◌else◌, take}
use Rattle.wb_text_tokens.specs.Spelling.{is_plain, escaped_byte, IsStringBody, IsRegexBody}
use Rattle.wb_base.specs.Decimal.{hex_value}
use Rattle.wb_text_tokens.specs.Skipping.{HasByte}

-- the byte that two hexadecimal digits write
abbrev pub byte_of : Option ℕ → Option ℕ → Option ℕ
byte_of None low = None
byte_of (Some m) None = None
byte_of (Some m) (Some n) = Some (16 * m + n)

-- a byte, and how many bytes stand for it
abbrev pub counted : Option ℕ → ℕ → Option (ℕ × ℕ)
counted None count = None
counted (Some b) count = Some (b, count)

-- after `\x`
abbrev pub hexadecimal_at : List ℕ → Option (ℕ × ℕ)
hexadecimal_at [] = None
hexadecimal_at (h ∷ []) = None
hexadecimal_at (h ∷ l ∷ x) = counted (byte_of (hex_value h) (hex_value l)) 4

-- after `\`
abbrev pub escape_at : List ℕ → Option (ℕ × ℕ)
escape_at [] = None
escape_at (e ∷ x) = if e == 120 then hexadecimal_at x else counted (escaped_byte e) 2

-- the byte that the first bytes stand for in a string, and their count
abbrev pub string_part : List ℕ → Option (ℕ × ℕ)
string_part [] = None
string_part (b ∷ x) = if b == 92 then escape_at x else if is_plain b then Some (b, 1) else None

-- after `\` in a regular expression
abbrev pub regex_escape : List ℕ → Option ℕ
regex_escape [] = None
regex_escape (b ∷ x) = if b == 10 then None else Some 2

-- the count of bytes of the first part of the body of a regular expression
abbrev pub regex_part : List ℕ → Option ℕ
regex_part [] = None
regex_part (b ∷ x) = if b == 92 then regex_escape x else if b == 47 || b == 10 then None else Some 1

-- a string's text with the place of its closing quote, in what comes after the opening quote
abbrev pub FindsString : List ℕ → Option (List ℕ × ℕ) → Type 0
FindsString x None = (body text rest : List ℕ) → IsStringBody body text → x ≢ body ++ 34 ∷ rest
FindsString x (Some found) = IsStringBody (take found.1 x) found.0 × HasByte x found.1 34

-- the place of the closing slash, in what comes after the opening one
abbrev pub FindsRegex : List ℕ → Option ℕ → Type 0
FindsRegex x None = (body rest : List ℕ) → IsRegexBody body → x ≢ body ++ 47 ∷ rest
FindsRegex x (Some place) = IsRegexBody (take place x) × HasByte x place 47
