-- What is in a text after layout: the longest token, the end, or no token.
use Rattle.std.specs.Prelude.{◌≡◌, ℕ, ◌<◌, ◌≤◌, List, length, slice_range}
use Rattle.wb_text_tokens.specs.Skipping.{SkipsLayout}
use Rattle.wb_text_tokens.specs.Spelling.{Spells, HasValueInRange}
use Rattle.wb_text_tokens.specs.declared.token.Dialect.{Dialect}
use Rattle.wb_text_predictive.specs.declared.table.Next.{Next}
use Rattle.wb_text_predictive.specs.declared.table.Next.TheVariants as n
use Rattle.wb_text_tokens.specs.declared.token.Token.{Token}

-- the longest token at the first place comes before the second. An integer goes on as long as digits do: where it is out of range,
-- no token is there
pub record IsTokenAt (dialect : Dialect) (text : List ℕ) (token : Token) (at end : ℕ) : Type 0 where
  pub ordered : at < end
  pub within : end ≤ length text
  pub spelled : Spells dialect token (slice_range text at end)
  pub in_range : HasValueInRange token
  pub longest : (other : Token) (later : ℕ) → end < later → later ≤ length text → ¬ Spells dialect other (slice_range text at later)

-- a token of the text begins at the first place or before it, and goes on over the second
pub record GoesOver (dialect : Dialect) (text : List ℕ) (at end : ℕ) : Type 0 where
  pub token : Token
  pub from : ℕ
  pub to : ℕ
  pub begins : from ≤ at
  pub over : end < to
  pub stands : IsTokenAt dialect text token from to

-- the next token from a place on, after layout
pub record NextToken (dialect : Dialect) (text : List ℕ) (from : ℕ) (token : Token) (at end : ℕ) : Type 0 where
  pub skipped : SkipsLayout dialect text from at
  pub stands : IsTokenAt dialect text token at end

-- layout goes to the end of the text
pub record IsEnd (dialect : Dialect) (text : List ℕ) (from at : ℕ) : Type 0 where
  pub skipped : SkipsLayout dialect text from at
  pub last : at ≡ length text

-- the text goes on after layout, and no token is there
pub record IsNoToken (dialect : Dialect) (text : List ℕ) (from at : ℕ) : Type 0 where
  pub skipped : SkipsLayout dialect text from at
  pub within : at < length text
  pub none_stands : (token : Token) (end : ℕ) → ¬ IsTokenAt dialect text token at end

-- what is next in a text from a place on, after layout
abbrev pub IsNextIn : Dialect → List ℕ → ℕ → Next Token → Type 0
IsNextIn dialect text from (n.Found x) = NextToken dialect text from x.token x.at x.end
IsNextIn dialect text from (n.End at) = IsEnd dialect text from at
IsNextIn dialect text from (n.NoToken at) = IsNoToken dialect text from at

-- places go forward and stay in the text
abbrev pub GoesForward : List ℕ → ℕ → Next Token → Type 0
GoesForward text from (n.Found x) = (from ≤ x.at) × (x.at < x.end) × (x.end ≤ length text)
GoesForward text from (n.End at) = at ≡ length text
GoesForward text from (n.NoToken at) = (from ≤ at) × (at < length text)
