-- Layout, and how far it goes.
use Rattle.std.specs.Prelude.{◌≡◌, ◌≢◌, ℕ, ◌+◌, ◌<◌, ◌≤◌, ◌==◌, Bool, true, false, IsTrue, ◌||◌, List, length, slice_index}
use Rattle.wb_text_tokens.specs.declared.token.Dialect.{Dialect}
use Rattle.wb_text_tokens.specs.declared.token.Dialect.TheVariants.{Terms, FormatOne, FormatTwo}

-- space, tab, LF or CR
abbrev pub is_blank : ℕ → Bool
is_blank b = b == 32 || b == 9 || b == 10 || b == 13

-- this byte is at this place
pub record HasByte (text : List ℕ) (at byte : ℕ) : Type 0 where
  pub within : at < length text
  pub is : slice_index text at ≡ byte

-- a comment stands from the first place to before the second: `//`, then no LF up to the next LF or the end of the text
pub record IsComment (text : List ℕ) (from behind : ℕ) : Type 0 where
  pub first : HasByte text from 47
  pub second : HasByte text (from + 1) 47
  pub ordered : from + 2 ≤ behind
  pub within : behind ≤ length text
  pub one_line : (place : ℕ) → from + 2 ≤ place → place < behind → slice_index text place ≢ 10
  pub ended : behind < length text → slice_index text behind ≡ 10

-- comments may stand between the tokens of specifications, and not between those of terms
abbrev pub has_comments : Dialect → Bool
has_comments Terms = false
has_comments FormatOne = true
has_comments FormatTwo = true

-- a piece of layout stands from the first place to before the second
pub data IsLayoutPiece (dialect : Dialect) (text : List ℕ) : ℕ → ℕ → Type 0 where
  blank : {from behind : ℕ} → from < length text → is_blank (slice_index text from) ≡ true → behind ≡ from + 1
      → IsLayoutPiece dialect text from behind
  comment : {from behind : ℕ} → IsTrue (has_comments dialect) → IsComment text from behind → IsLayoutPiece dialect text from behind

-- layout goes from the first place to the second, and no further
pub data SkipsLayout (dialect : Dialect) (text : List ℕ) : ℕ → ℕ → Type 0 where
  stop : {from at : ℕ} → ((behind : ℕ) → ¬ IsLayoutPiece dialect text from behind) → from ≡ at
      → SkipsLayout dialect text from at
  skip : {from behind at : ℕ} → IsLayoutPiece dialect text from behind → SkipsLayout dialect text behind at
      → SkipsLayout dialect text from at
