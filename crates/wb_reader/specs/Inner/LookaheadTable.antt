-- Which tokens decide for which right side, and what is given of each nonterminal beside it. It is only checked.
use Rattle.std.specs.Prelude.{List, [], ◌∷◌, ◌++◌, map, true, false}
use Rattle.wb_text_predictive.specs.Entries.{Entry}
use Rattle.wb_text_tokens.specs.declared.kind.TokenKind.{TokenKind}
use Rattle.wb_text_tokens.specs.declared.kind.TokenKind.TheVariants as kind
use Rattle.wb_text_tokens.specs.declared.word.Word.TheVariants as w
use Rattle.wb_text_tokens.specs.declared.punctuation.Punctuation.TheVariants as p
use Rattle.wb_reader.specs.declared.part.Part.{Part}
use Rattle.wb_reader.specs.Inner.ItemRules.{item_first}

-- what can follow an item
abbrev pub after_item : List TokenKind
after_item = item_first ++ kind.End ∷ []

-- the kinds with which an equation begins
abbrev pub equation_first : List TokenKind
equation_first =
    kind.Word w.Forward ∷ kind.Word w.Forwards ∷ kind.Word w.Local ∷ kind.Word w.Top ∷ kind.Name ∷ []

-- what can follow an equation
abbrev pub after_equation : List TokenKind
after_equation =
    kind.Word w.Forward ∷ kind.Word w.Forwards ∷ kind.Word w.Local ∷ kind.Word w.Top ∷ kind.Mark p.CloseBrace ∷ kind.Name ∷ []

-- the kinds with which an expression begins
abbrev pub expression_first : List TokenKind
expression_first =
    kind.Word w.False ∷ kind.Word w.Forward ∷ kind.Word w.If ∷ kind.Word w.Top ∷ kind.Word w.True ∷ kind.Mark p.At ∷ kind.Name
    ∷ kind.One ∷ kind.Two ∷ kind.Number ∷ kind.String ∷ []

-- what can follow an expression
abbrev pub after_expression : List TokenKind
after_expression =
    kind.Word w.Else ∷ kind.Word w.Then ∷ kind.Mark p.Semicolon ∷ kind.Mark p.Comma ∷ kind.Mark p.CloseParenthesis ∷ []

-- what is given of each nonterminal
unfoldable pub lookahead_table : Part → Entry TokenKind
lookahead_table Part.File = record {
  kinds = (kind.Word w.Format ∷ []) ∷ [];
  nullable = false;
  first = kind.Word w.Format ∷ [];
  follow = kind.End ∷ [];
  rank = 1;
  weight = 1;
}
lookahead_table Part.Format = record {
  kinds = (kind.One ∷ []) ∷ (kind.Two ∷ []) ∷ [];
  nullable = false;
  first = kind.One ∷ kind.Two ∷ [];
  follow = kind.Mark p.Semicolon ∷ [];
  rank = 0;
  weight = 1;
}
lookahead_table Part.Header = record {
  kinds = (kind.Word w.Host ∷ []) ∷ (kind.Word w.Extension ∷ []) ∷ [];
  nullable = false;
  first = kind.Word w.Extension ∷ kind.Word w.Host ∷ [];
  follow = after_item;
  rank = 0;
  weight = 1;
}
lookahead_table Part.Items = record {
  kinds = (kind.End ∷ []) ∷ item_first ∷ [];
  nullable = true;
  first = item_first;
  follow = kind.End ∷ [];
  rank = 0;
  weight = 2;
}
lookahead_table Part.Item = record {
  kinds = map (λ first. first ∷ []) item_first;
  nullable = false;
  first = item_first;
  follow = after_item;
  rank = 0;
  weight = 1;
}
lookahead_table Part.Production = record {
  kinds = (kind.Name ∷ []) ∷ [];
  nullable = false;
  first = kind.Name ∷ [];
  follow = after_item;
  rank = 2;
  weight = 1;
}
lookahead_table Part.Kind = record {
  kinds = (kind.Word w.Int ∷ []) ∷ (kind.Word w.Bool ∷ []) ∷ (kind.Word w.Text ∷ []) ∷ (kind.Name ∷ []) ∷ [];
  nullable = false;
  first = kind.Word w.Bool ∷ kind.Word w.Int ∷ kind.Word w.Text ∷ kind.Name ∷ [];
  follow = kind.Mark p.Semicolon ∷ kind.Mark p.OpenBrace ∷ kind.Name ∷ [];
  rank = 0;
  weight = 1;
}
lookahead_table Part.OptionalNeeds = record {
  kinds = (kind.Mark p.Semicolon ∷ []) ∷ (kind.Word w.Needs ∷ []) ∷ [];
  nullable = true;
  first = kind.Word w.Needs ∷ [];
  follow = kind.Mark p.Semicolon ∷ [];
  rank = 0;
  weight = 2;
}
lookahead_table Part.Needs = record {
  kinds = (kind.Word w.Needs ∷ []) ∷ [];
  nullable = false;
  first = kind.Word w.Needs ∷ [];
  follow = kind.Mark p.Semicolon ∷ [];
  rank = 1;
  weight = 1;
}
lookahead_table Part.Names = record {
  kinds = (kind.Mark p.CloseBrace ∷ []) ∷ (kind.Name ∷ []) ∷ [];
  nullable = true;
  first = kind.Name ∷ [];
  follow = kind.Mark p.CloseBrace ∷ [];
  rank = 0;
  weight = 1;
}
lookahead_table Part.FurtherNames = record {
  kinds = (kind.Mark p.CloseBrace ∷ []) ∷ (kind.Mark p.Comma ∷ []) ∷ [];
  nullable = true;
  first = kind.Mark p.Comma ∷ [];
  follow = kind.Mark p.CloseBrace ∷ [];
  rank = 0;
  weight = 1;
}
lookahead_table Part.Children = record {
  kinds = (kind.Mark p.OpenBrace ∷ []) ∷ (kind.Name ∷ []) ∷ [];
  nullable = true;
  first = kind.Name ∷ [];
  follow = kind.Mark p.OpenBrace ∷ [];
  rank = 0;
  weight = 1;
}
lookahead_table Part.Block = record {
  kinds = (kind.Mark p.OpenBrace ∷ []) ∷ [];
  nullable = false;
  first = kind.Mark p.OpenBrace ∷ [];
  follow = after_item;
  rank = 1;
  weight = 1;
}
lookahead_table Part.Equations = record {
  kinds = (kind.Mark p.CloseBrace ∷ []) ∷ equation_first ∷ [];
  nullable = true;
  first = equation_first;
  follow = kind.Mark p.CloseBrace ∷ [];
  rank = 0;
  weight = 2;
}
lookahead_table Part.Equation = record {
  kinds =
      (kind.Word w.Top ∷ []) ∷ (kind.Name ∷ []) ∷ (kind.Word w.Forward ∷ []) ∷ (kind.Word w.Local ∷ []) ∷ (kind.Word w.Forwards ∷ [])
      ∷ [];
  nullable = false;
  first = equation_first;
  follow = after_equation;
  rank = 2;
  weight = 1;
}
lookahead_table Part.Value = record {
  kinds = expression_first ∷ [];
  nullable = false;
  first = expression_first;
  follow = after_equation;
  rank = 1;
  weight = 4;
}
lookahead_table Part.Expression = record {
  kinds =
      (kind.One ∷ kind.Two ∷ kind.Number ∷ []) ∷ (kind.String ∷ []) ∷ (kind.Word w.True ∷ []) ∷ (kind.Word w.False ∷ []) ∷ (kind.Name ∷ [])
      ∷ (kind.Word w.Top ∷ []) ∷ (kind.Word w.Forward ∷ []) ∷ (kind.Mark p.At ∷ []) ∷ (kind.Word w.If ∷ []) ∷ [];
  nullable = false;
  first = expression_first;
  follow = after_expression;
  rank = 0;
  weight = 2;
}
lookahead_table Part.Tail = record {
  kinds = after_expression ∷ (kind.Mark p.Dot ∷ []) ∷ (kind.Mark p.OpenParenthesis ∷ []) ∷ [];
  nullable = true;
  first = kind.Mark p.Dot ∷ kind.Mark p.OpenParenthesis ∷ [];
  follow = after_expression;
  rank = 0;
  weight = 2;
}
lookahead_table Part.Read = record {
  kinds = (kind.Name ∷ []) ∷ (kind.Word w.Lexeme ∷ []) ∷ [];
  nullable = false;
  first = kind.Word w.Lexeme ∷ kind.Name ∷ [];
  follow = after_expression;
  rank = 0;
  weight = 1;
}
lookahead_table Part.Arguments = record {
  kinds = (kind.Mark p.CloseParenthesis ∷ []) ∷ expression_first ∷ [];
  nullable = true;
  first = expression_first;
  follow = kind.Mark p.CloseParenthesis ∷ [];
  rank = 0;
  weight = 3;
}
lookahead_table Part.FurtherArguments = record {
  kinds = (kind.Mark p.CloseParenthesis ∷ []) ∷ (kind.Mark p.Comma ∷ []) ∷ [];
  nullable = true;
  first = kind.Mark p.Comma ∷ [];
  follow = kind.Mark p.CloseParenthesis ∷ [];
  rank = 0;
  weight = 1;
}
lookahead_table Part.Integer = record {
  kinds = (kind.One ∷ []) ∷ (kind.Two ∷ []) ∷ (kind.Number ∷ []) ∷ [];
  nullable = false;
  first = kind.One ∷ kind.Two ∷ kind.Number ∷ [];
  follow = after_expression;
  rank = 0;
  weight = 1;
}
