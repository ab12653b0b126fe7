-- The tokens of a text, by their kinds and places.
use Rattle.std.specs.Prelude.{◌≡◌, ℕ, List, map, Option, Some, None, slice_get, slice_range}
use Rattle.wb_text_predictive.specs.declared.table.Placed.{Placed}
use Rattle.wb_text_predictive.specs.declared.table.Next.{Next}
use Rattle.wb_text_predictive.specs.declared.table.Next.TheVariants.{Found, End, NoToken}
use Rattle.wb_text_predictive.specs.Reading.{Spells}
use Rattle.wb_text_tokens.specs.declared.token.Dialect.{Dialect}
use Rattle.wb_text_tokens.specs.declared.token.Token.{Token}
use Rattle.wb_text_tokens.specs.declared.kind.TokenKind.TheVariants.{Name}
use Rattle.wb_text_tokens.specs.Kinds.{kind_of}
use Rattle.wb_text_tokens.specs.NextToken.{IsNextIn}
use Rattle.wb_reader_places.specs.declared.tokens.TokenPlace.{TokenPlace}

-- a token's kind, where it begins, and where it ends
abbrev pub place_of : Placed Token → TokenPlace
place_of x = record { kind = kind_of x.token; at = x.at; end = x.end }

-- that of the token that is next, where one is
abbrev pub place_in : Next Token → Option TokenPlace
place_in (Found x) = Some (place_of x)
place_in (End at) = None
place_in (NoToken at) = None

-- this is next in the text from a place on, after layout
abbrev pub IsNextPlace : Dialect → List ℕ → ℕ → Option TokenPlace → Type 0
IsNextPlace dialect text from found = (next : Next Token) × IsNextIn dialect text from next × (found ≡ place_in next)

-- these are the first tokens of the text, and the last of them ends here
pub record AreFirst (dialect : Dialect) (text : List ℕ) (places : List TokenPlace) (to : ℕ) : Type 0 where
  pub tokens : List (Placed Token)
  pub spelled : Spells (IsNextIn dialect text) 0 tokens to
  pub are : places ≡ map place_of tokens

-- these are all tokens of the text, up to its end or to bytes that begin no token
pub record AreTokens (dialect : Dialect) (text : List ℕ) (places : List TokenPlace) : Type 0 where
  pub to : ℕ
  pub first : AreFirst dialect text places to
  pub last : IsNextPlace dialect text to None

-- one of the text's tokens is this name, and begins here
pub record IsNameAt (text name : List ℕ) (at : ℕ) : Type 0 where
  pub dialect : Dialect
  pub places : List TokenPlace
  pub are : AreTokens dialect text places
  pub number : ℕ
  pub place : TokenPlace
  pub there : slice_get places number ≡ Some place
  pub is_name : place.kind ≡ Name
  pub begins : place.at ≡ at
  pub reads : slice_range text place.at place.end ≡ name
