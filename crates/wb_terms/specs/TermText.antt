-- Which bytes are which term, and where bytes that are none have their first error.
use Rattle.std.specs.Prelude.{◌≡◌, ℕ, List, [], ◌∷◌, ◌++◌}
use Rattle.wb_text_predictive.specs.declared.table.Next.{Next}
use Rattle.wb_text_predictive.specs.declared.table.Next.TheVariants.{Found, End, NoToken}
use Rattle.wb_text_predictive.specs.Reading.{Spells, place_of}
use Rattle.wb_text_tokens.specs.declared.token.Dialect.TheVariants.{Terms}
use Rattle.wb_text_tokens.specs.declared.token.Token.{Token}
use Rattle.wb_text_tokens.specs.NextToken.{IsNextIn}
use Rattle.wb_terms.specs.Term.{Term}
use Rattle.wb_terms.specs.TermGrammar.{Tokens, IsTerm}

-- the bytes, from their beginning to their end, spell tokens with layout around them, and the tokens are the term
pub record IsTermText (bytes : List ℕ) (term : Term) : Type 0 where
  pub tokens : Tokens
  pub to : ℕ
  pub at : ℕ
  pub spelled : Spells (IsNextIn Terms bytes) 0 tokens to
  pub ended : IsNextIn Terms bytes to (End at)
  pub whole : IsTerm term tokens []

-- some term begins with these tokens
pub record CanBegin (front : Tokens) : Type 0 where
  pub others : Tokens
  pub term : Term
  pub whole : IsTerm term (front ++ others) []

-- what comes next can't follow these tokens: a token with which no term goes on, the end where they are no term, or no token
abbrev pub CannotFollow : Tokens → Next Token → Type 0
CannotFollow front (Found x) = ¬ CanBegin (front ++ x ∷ [])
CannotFollow front (End at) = (term : Term) → ¬ IsTerm term front []
CannotFollow front (NoToken at) = Unit {0}

-- at this place is the first thing that can't follow the tokens before it, which begin some term
pub record IsFirstFault (bytes : List ℕ) (place : ℕ) : Type 0 where
  pub front : Tokens
  pub from : ℕ
  pub next : Next Token
  pub spelled : Spells (IsNextIn Terms bytes) 0 front from
  pub before : CanBegin front
  pub stands : IsNextIn Terms bytes from next
  pub fault : CannotFollow front next
  pub here : place_of next ≡ place
