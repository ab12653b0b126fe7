-- Which bytes spell which token.
use Rattle.std.specs.Prelude.{◌≡◌, ℕ, ◌+◌, ◌*◌, ◌==◌, ◌≢◌, ⊤, Bool, true, false, not, ◌||◌, List, [], ◌∷◌, ◌++◌, Option, Some, None, ℤ, pos}
use Rattle.std.specs.Prelude.{neg_ℤ, if◌then◌else◌, FitsSigned}
use Rattle.std.specs.Int.{w64}
use Rattle.std.specs.Str.Parse.{IsNumeral, digits_value}
use Rattle.wb_text_tokens.specs.Words.{IsSpelledIn, IsReservedIn, punctuation_text}
use Rattle.wb_base.specs.Decimal.{hex_value}
use Rattle.wb_base.specs.Identifiers.{IsIdentifier}
use Rattle.wb_text_tokens.specs.declared.token.Dialect.{Dialect}
use Rattle.wb_text_tokens.specs.declared.token.Token.{Token}
use Rattle.wb_text_tokens.specs.declared.token.Token.TheVariants as t

-- an optional `-` directly before one or more digits, and their value
pub data IsInteger : List ℕ → ℤ → Type 0 where
  positive : {x : List ℕ} {z : ℤ} → IsNumeral 10 x → z ≡ pos (digits_value 10 x) → IsInteger x z
  negative : {x y : List ℕ} {z : ℤ} → IsNumeral 10 y → x ≡ 45 ∷ y → z ≡ neg_ℤ (pos (digits_value 10 y)) → IsInteger x z

-- a byte that stands for itself in a string: any but `"`, `\` and LF
abbrev pub is_plain : ℕ → Bool
is_plain b = not (b == 34 || b == 92 || b == 10)

-- the byte that a byte after a backslash stands for: `"`, `\`, `n`, `t` and `r`
abbrev pub escaped_byte : ℕ → Option ℕ
escaped_byte e =
    if e == 34 then Some 34 else if e == 92 then Some 92 else if e == 110 then Some 10 else if e == 116 then Some 9
    else if e == 114 then Some 13 else None

-- the bytes stand for one byte in a string
pub data IsStringPart : List ℕ → ℕ → Type 0 where
  plain : {x : List ℕ} {b : ℕ} → is_plain b ≡ true → x ≡ b ∷ [] → IsStringPart x b
  escaped : {x : List ℕ} {e b : ℕ} → escaped_byte e ≡ Some b → x ≡ 92 ∷ e ∷ [] → IsStringPart x b
  hexadecimal : {x : List ℕ} {h l m n b : ℕ} → hex_value h ≡ Some m → hex_value l ≡ Some n → b ≡ 16 * m + n
      → x ≡ 92 ∷ 120 ∷ h ∷ l ∷ [] → IsStringPart x b

-- the bytes stand for the text between the quotes of a string
pub data IsStringBody : List ℕ → List ℕ → Type 0 where
  none : {x text : List ℕ} → x ≡ [] → text ≡ [] → IsStringBody x text
  next : {part x y text whole : List ℕ} {b : ℕ} → IsStringPart part b → IsStringBody x text → y ≡ part ++ x → whole ≡ b ∷ text
      → IsStringBody y whole

-- the bytes, with their quotes, are a string of this text
pub record IsString (x text : List ℕ) : Type 0 where
  pub body : List ℕ
  pub stands : IsStringBody body text
  pub quoted : x ≡ 34 ∷ (body ++ 34 ∷ [])

-- a byte other than `/`, `\` and LF, or `\` with a following byte other than LF
pub data IsRegexPart : List ℕ → Type 0 where
  plain : {x : List ℕ} {b : ℕ} → (b == 47 || b == 92 || b == 10) ≡ false → x ≡ b ∷ [] → IsRegexPart x
  escaped : {x : List ℕ} {b : ℕ} → (b == 10) ≡ false → x ≡ 92 ∷ b ∷ [] → IsRegexPart x

-- any number of such parts
pub data IsRegexBody : List ℕ → Type 0 where
  none : {x : List ℕ} → x ≡ [] → IsRegexBody x
  next : {part x y : List ℕ} → IsRegexPart part → IsRegexBody x → y ≡ part ++ x → IsRegexBody y

-- the bytes spell the token in the dialect, an integer of any value among them
abbrev pub Spells : Dialect → Token → List ℕ → Type 0
Spells dialect (t.Name text) x = (x ≡ text) × IsIdentifier x × (¬ IsReservedIn dialect x)
Spells dialect (t.Word word) x = IsSpelledIn dialect x word
Spells dialect (t.Int value) x = IsInteger x value
Spells dialect (t.Text text) x = IsString x text
Spells dialect (t.Regex body) x = (x ≡ 47 ∷ (body ++ 47 ∷ [])) × (body ≢ []) × IsRegexBody body
Spells dialect (t.Punctuation mark) x = x ≡ punctuation_text mark

-- where the token is an integer, its value is a signed number of 64 bits
abbrev pub HasValueInRange : Token → Type 0
HasValueInRange (t.Name text) = ⊤
HasValueInRange (t.Word word) = ⊤
HasValueInRange (t.Int value) = FitsSigned w64 value
HasValueInRange (t.Text text) = ⊤
HasValueInRange (t.Regex body) = ⊤
HasValueInRange (t.Punctuation mark) = ⊤

-- the bytes are the token in the dialect
abbrev pub IsToken : Dialect → Token → List ℕ → Type 0
IsToken dialect token x = Spells dialect token x × HasValueInRange token
