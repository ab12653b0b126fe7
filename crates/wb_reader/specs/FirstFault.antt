-- What the place of a first error says of bytes.
use Rattle.std.specs.Prelude.{◌≡◌, ◌≤◌, ◌<◌, ◌⊎◌, ℕ, List, [], ◌∷◌, ◌++◌, All, length, slice_index, take}
use Rattle.wb_text_tokens.specs.declared.token.Dialect.{Dialect}
use Rattle.wb_text_tokens.specs.declared.token.Token.{Token}
use Rattle.wb_text_tokens.specs.NextToken.{IsTokenAt, GoesOver}
use Rattle.wb_text_tokens.specs.Skipping.{IsComment}
use Rattle.wb_syntax.specs.declared.written.WrittenSpec.{WrittenSpec}
use Rattle.wb_syntax.specs.SpecText.{IsWrittenText, dialect_of}
use Rattle.wb_reader.specs.declared.refusal.SpecRefusal.TheVariants.{Syntax}
use Rattle.wb_reader.specs.Refusals.{HasCause, IsDialectOf}

-- some specification's text begins with these bytes
pub record BeginsText (front : List ℕ) : Type 0 where
  pub rest : List ℕ
  pub bytes : All (λ b. b < 256) rest
  pub written : WrittenSpec
  pub text : IsWrittenText (front ++ rest) written

-- no specification's text begins with these bytes
abbrev pub BeginsNone : List ℕ → Type 0
BeginsNone front = (rest : List ℕ) (written : WrittenSpec) → ¬ IsWrittenText (front ++ rest) written

-- a line ends at the second place, which is after the first: a line feed is there, or the bytes end there
pub record IsLineEnd (bytes : List ℕ) (at end : ℕ) : Type 0 where
  pub after : at < end
  pub within : end ≤ length bytes
  pub ended : end < length bytes → slice_index bytes end ≡ 10

-- a token of the text begins at the first place or before it, or a comment at it, and goes on over the second
abbrev pub SomethingGoesOver : Dialect → List ℕ → ℕ → ℕ → Type 0
SomethingGoesOver dialect text at end = GoesOver dialect text at end ⊎ ((behind : ℕ) × IsComment text at behind × (end < behind))

-- The bytes before the place begin some specification's text, and with what is at the place none does.
pub record IsFaultOfBytes (bytes : List ℕ) (at : ℕ) : Type 0 where
  -- the bytes before the place begin some specification's text
  pub before : BeginsText (take at bytes)
  -- the bytes themselves are none
  pub none : (written : WrittenSpec) → ¬ IsWrittenText bytes written
  -- with the token at the place, ended by a line feed, no text begins
  pub token : (dialect : Dialect) → IsDialectOf bytes dialect → (token : Token) (end : ℕ) → IsTokenAt dialect bytes token at end
      → BeginsNone (take end bytes ++ 10 ∷ [])
  -- and without that line feed, only a text in which a token goes on over that end, as `f` goes on to be `format`
  pub over : (dialect : Dialect) → IsDialectOf bytes dialect → (token : Token) (end : ℕ) → IsTokenAt dialect bytes token at end
      → (rest : List ℕ) (written : WrittenSpec) → IsWrittenText (take end bytes ++ rest) written
      → GoesOver (dialect_of written.format) (take end bytes ++ rest) at end
  -- whether a token is at the place or not: with the bytes up to the end of its line, or of a later one, and a line feed, no text begins
  pub line : (end : ℕ) → IsLineEnd bytes at end → BeginsNone (take end bytes ++ 10 ∷ [])
  -- and without that line feed, only a text in which a token or a comment goes on over that end, as a string that was not ended
  pub over_line : (end : ℕ) → IsLineEnd bytes at end → (rest : List ℕ) (written : WrittenSpec)
      → IsWrittenText (take end bytes ++ rest) written → SomethingGoesOver (dialect_of written.format) (take end bytes ++ rest) at end

-- this is so of the place of each refusal for syntax
abbrev pub FaultsAreFirst : Type 0
FaultsAreFirst = (bytes : List ℕ) (at : ℕ) → HasCause bytes (Syntax at) → IsFaultOfBytes bytes at
