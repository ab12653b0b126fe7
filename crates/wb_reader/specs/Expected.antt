-- Which kinds of tokens can come at a place of a specification.
use Rattle.std.specs.Prelude.{◌≡◌, ◌<◌, ◌≤◌, ℕ, List, [], ◌∷◌, ◌++◌, All}
use Rattle.wb_text_predictive.specs.declared.table.Next.{Next}
use Rattle.wb_text_predictive.specs.Reading.{Spells, place_of}
use Rattle.wb_text_expected.specs.Expected.{AreThose}
use Rattle.wb_text_tokens.specs.declared.kind.TokenKind.{TokenKind}
use Rattle.wb_text_tokens.specs.declared.token.Dialect.{Dialect}
use Rattle.wb_text_tokens.specs.declared.token.Token.{Token}
use Rattle.wb_text_tokens.specs.Kinds.{kind_of}
use Rattle.wb_text_tokens.specs.NextToken.{IsNextIn}
use Rattle.wb_syntax.specs.Tokens.{Lexeme}
use Rattle.wb_reader.specs.Refusals.{CanBegin, IsDialectOf}

-- some specification goes on after these tokens with one of this kind
abbrev pub CanCome : List Lexeme → TokenKind → Type 0
CanCome front kind = (x : Lexeme) × (kind ≡ kind_of x.token) × CanBegin (front ++ x ∷ [])

-- by the tokens of the dialect: those that begin before the place come one after the other from the beginning, what is next doesn't begin
-- before it, and the second are those of the first kinds of which a token can come after these tokens
pub record AreExpectedIn (dialect : Dialect) (bytes : List ℕ) (at : ℕ) (asked listed : List TokenKind) : Type 0 where
  pub front : List Lexeme
  pub from : ℕ
  pub next : Next Token
  pub spelled : Spells (IsNextIn dialect bytes) 0 front from
  pub before : All (λ x. x.at < at) front
  pub stands : IsNextIn dialect bytes from next
  pub after : at ≤ place_of next
  pub are : AreThose (CanCome front) asked listed

-- by the tokens of the bytes' own dialect
pub record AreExpectedOf (bytes : List ℕ) (at : ℕ) (asked listed : List TokenKind) : Type 0 where
  pub dialect : Dialect
  pub own : IsDialectOf bytes dialect
  pub are : AreExpectedIn dialect bytes at asked listed
