-- A reserved word of a text.
use Rattle.std.specs.Prelude.{ℕ, List}
use Rattle.wb_text_tokens.specs.NextToken.{NextToken}
use Rattle.wb_text_tokens.specs.declared.token.Dialect.{Dialect}
use Rattle.wb_text_tokens.specs.declared.token.Token.TheVariants.{Word as Reserved}
use Rattle.wb_text_tokens.specs.declared.word.Word.{Word}

-- the next token from this place on, after layout, is this reserved word
pub record IsReservedAt (dialect : Dialect) (text : List ℕ) (from : ℕ) (word : Word) : Type 0 where
  pub at : ℕ
  pub end : ℕ
  pub is : NextToken dialect text from (Reserved word) at end
