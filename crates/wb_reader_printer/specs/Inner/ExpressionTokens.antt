-- The tokens of expressions.
use Rattle.std.specs.Prelude.{Bool, true, false, List, [], ◌∷◌, ◌++◌}
use Rattle.wb_text_tokens.specs.declared.token.Token.{Token}
use Rattle.wb_text_tokens.specs.declared.token.Token.TheVariants as t
use Rattle.wb_text_tokens.specs.declared.word.Word.TheVariants as w
use Rattle.wb_text_tokens.specs.declared.punctuation.Punctuation.TheVariants as p
use Rattle.wb_syntax.specs.Expression.{Expression, Expressions}
use Rattle.wb_syntax_expressions.specs.Expression.{Int, Text, Truth, Label, Read, Lexeme, Top, Forward, Build, Call, If, none, more}

-- the word of a truth value
abbrev pub truth_token : Bool → Token
truth_token true = t.Word w.True
truth_token false = t.Word w.False

-- what comes before an attribute or the word 'lexeme', and that
abbrev pub dotted : Token → Token → List Token
dotted before behind = before ∷ t.Punctuation p.Dot ∷ behind ∷ []

abbrev mutual
  -- the tokens of an expression
  pub expression_tokens : Expression → List Token
  expression_tokens (Int z) = t.Int z ∷ []
  expression_tokens (Text text) = t.Text text ∷ []
  expression_tokens (Truth truth) = truth_token truth ∷ []
  expression_tokens (Label label) = t.Name label ∷ []
  expression_tokens (Read label attribute) = dotted (t.Name label) (t.Name attribute)
  expression_tokens (Lexeme label) = dotted (t.Name label) (t.Word w.Lexeme)
  expression_tokens (Top attribute) = dotted (t.Word w.Top) (t.Name attribute)
  expression_tokens (Forward attribute) = dotted (t.Word w.Forward) (t.Name attribute)
  expression_tokens (Build production parts) =
      t.Name production ∷ t.Punctuation p.OpenParenthesis ∷ (arguments_tokens parts ++ t.Punctuation p.CloseParenthesis ∷ [])
  expression_tokens (Call operation parts) =
      t.Punctuation p.At ∷ t.Name operation ∷ t.Punctuation p.OpenParenthesis
      ∷ (arguments_tokens parts ++ t.Punctuation p.CloseParenthesis ∷ [])
  expression_tokens (If condition holds fails) =
      t.Word w.If ∷ (expression_tokens condition ++ t.Word w.Then ∷ (expression_tokens holds ++ t.Word w.Else ∷ expression_tokens fails))

  -- expressions with commas between them
  pub arguments_tokens : Expressions → List Token
  arguments_tokens none = []
  arguments_tokens (more e es) = expression_tokens e ++ further_tokens es

  -- expressions with a comma before each
  pub further_tokens : Expressions → List Token
  further_tokens none = []
  further_tokens (more e es) = t.Punctuation p.Comma ∷ (expression_tokens e ++ further_tokens es)
