-- Which tokens are of a text, and what one step says.
use Rattle.std.specs.Prelude.{◌≡◌, ◌≤◌, ◌⊎◌, ℕ, List, Some, length, slice_get, slice_range}
use Rattle.wb_text_tokens.specs.declared.token.Dialect.{Dialect}
use Rattle.wb_text_tokens.specs.declared.kind.TokenKind.TheVariants.{Name}
use Rattle.wb_reader_places.specs.declared.tokens.TokenPlace.{TokenPlace}
use Rattle.wb_reader_places.specs.Tokens.{AreTokens}
use Rattle.wb_explain_names.specs.Said.{ShowsName}

-- these are the tokens of the text
abbrev pub AreOf : List ℕ → List TokenPlace → Type 0
AreOf text tokens = (dialect : Dialect) × AreTokens dialect text tokens

-- this is a token of the text
pub record IsTokenOf (text : List ℕ) (place : TokenPlace) : Type 0 where
  pub tokens : List TokenPlace
  pub are : AreOf text tokens
  pub number : ℕ
  pub there : slice_get tokens number ≡ Some place

-- the token is the name, and begins within the text
pub record IsNameToken (text name : List ℕ) (place : TokenPlace) : Type 0 where
  pub kind : place.kind ≡ Name
  pub within : place.at ≤ length text
  pub reads : slice_range text place.at place.end ≡ name

-- a place of the name is shown, or nothing is
abbrev pub MayShow : List ℕ → List ℕ → List ℕ → List ℕ → List ℕ → Type 0
MayShow file text name old new = (new ≡ old) ⊎ ShowsName file text name old new
