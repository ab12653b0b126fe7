-- The right sides of the grammar of specifications.
use Rattle.std.specs.Prelude.{List, [], ◌∷◌}
use Rattle.wb_text_predictive.specs.declared.symbol.Symbol.{Symbol}
use Rattle.wb_text_predictive.specs.declared.symbol.Symbol.TheVariants.{Token, Nonterminal, Act}
use Rattle.wb_text_tokens.specs.declared.kind.TokenKind.{TokenKind}
use Rattle.wb_text_tokens.specs.declared.kind.TokenKind.TheVariants as kind
use Rattle.wb_text_tokens.specs.declared.word.Word.TheVariants as w
use Rattle.wb_text_tokens.specs.declared.punctuation.Punctuation.TheVariants as p
use Rattle.wb_reader.specs.declared.part.Part.{Part}
use Rattle.wb_reader.specs.Inner.ItemRules.{item_right_sides}
use Rattle.wb_reader_builder.specs.declared.actions.Action.{Action}
use Rattle.wb_reader_builder.specs.declared.items.ItemAction.{ItemAction}
use Rattle.wb_reader_builder.specs.declared.parts.PartAction.{PartAction}
use Rattle.wb_reader_builder.specs.declared.expressions.ExpressionAction.{ExpressionAction}

-- the right sides
unfoldable pub right_sides : Part → List (List (Symbol TokenKind Part Action))
right_sides Part.File =
    (Token (kind.Word w.Format) ∷ Nonterminal Part.Format ∷ Token (kind.Mark p.Semicolon) ∷ Act (Action.Item ItemAction.Begin)
    ∷ Nonterminal Part.Header ∷ Nonterminal Part.Items ∷ []) ∷ []
right_sides Part.Format = (Token kind.One ∷ []) ∷ (Token kind.Two ∷ []) ∷ []
right_sides Part.Header =
    (Token (kind.Word w.Host) ∷ Token kind.Name ∷ Token (kind.Mark p.Semicolon) ∷ Act (Action.Item ItemAction.Host) ∷ [])
    ∷ (Token (kind.Word w.Extension) ∷ Token kind.Name ∷ Token (kind.Word w.For) ∷ Token kind.Name ∷ Token (kind.Mark p.Semicolon)
    ∷ Act (Action.Item ItemAction.Extension) ∷ []) ∷ []
right_sides Part.Items = [] ∷ (Nonterminal Part.Item ∷ Nonterminal Part.Items ∷ []) ∷ []
right_sides Part.Item = item_right_sides
right_sides Part.Production =
    (Token kind.Name ∷ Token (kind.Mark p.Colon) ∷ Token kind.Name ∷ Token (kind.Mark p.Becomes)
    ∷ Act (Action.Item ItemAction.BeginChildren) ∷ Nonterminal Part.Children ∷ Nonterminal Part.Block
    ∷ Act (Action.Item ItemAction.Production) ∷ []) ∷ []
right_sides Part.Kind =
    (Token (kind.Word w.Int) ∷ Act (Action.Part PartAction.IntKind) ∷ [])
    ∷ (Token (kind.Word w.Bool) ∷ Act (Action.Part PartAction.BoolKind) ∷ [])
    ∷ (Token (kind.Word w.Text) ∷ Act (Action.Part PartAction.TextKind) ∷ [])
    ∷ (Token kind.Name ∷ Act (Action.Part PartAction.NameKind) ∷ []) ∷ []
right_sides Part.OptionalNeeds =
    (Act (Action.Part PartAction.NoNeeds) ∷ [])
    ∷ (Nonterminal Part.Needs ∷ Act (Action.Part PartAction.SomeNeeds) ∷ []) ∷ []
right_sides Part.Needs =
    (Token (kind.Word w.Needs) ∷ Token (kind.Mark p.OpenBrace) ∷ Act (Action.Part PartAction.BeginNames) ∷ Nonterminal Part.Names
    ∷ Token (kind.Mark p.CloseBrace) ∷ []) ∷ []
right_sides Part.Names = [] ∷ (Token kind.Name ∷ Act (Action.Part PartAction.AddName) ∷ Nonterminal Part.FurtherNames ∷ []) ∷ []
right_sides Part.FurtherNames =
    []
    ∷ (Token (kind.Mark p.Comma) ∷ Token kind.Name ∷ Act (Action.Part PartAction.AddName) ∷ Nonterminal Part.FurtherNames ∷ []) ∷ []
right_sides Part.Children =
    []
    ∷ (Token kind.Name ∷ Token (kind.Mark p.Colon) ∷ Nonterminal Part.Kind ∷ Act (Action.Part PartAction.AddChild)
    ∷ Nonterminal Part.Children ∷ []) ∷ []
right_sides Part.Block =
    (Token (kind.Mark p.OpenBrace) ∷ Act (Action.Part PartAction.BeginEquations) ∷ Nonterminal Part.Equations
    ∷ Token (kind.Mark p.CloseBrace) ∷ []) ∷ []
right_sides Part.Equations = [] ∷ (Nonterminal Part.Equation ∷ Nonterminal Part.Equations ∷ []) ∷ []
right_sides Part.Equation =
    (Token (kind.Word w.Top) ∷ Token (kind.Mark p.Dot) ∷ Token kind.Name ∷ Token (kind.Mark p.Equals)
    ∷ Act (Action.Part PartAction.TopTarget) ∷ Nonterminal Part.Value ∷ [])
    ∷ (Token kind.Name ∷ Token (kind.Mark p.Dot) ∷ Token kind.Name ∷ Token (kind.Mark p.Equals)
    ∷ Act (Action.Part PartAction.LabelTarget) ∷ Nonterminal Part.Value ∷ [])
    ∷ (Token (kind.Word w.Forward) ∷ Token (kind.Mark p.Dot) ∷ Token kind.Name ∷ Token (kind.Mark p.Equals)
    ∷ Act (Action.Part PartAction.ForwardTarget) ∷ Nonterminal Part.Value ∷ [])
    ∷ (Token (kind.Word w.Local) ∷ Token kind.Name ∷ Token (kind.Mark p.Colon) ∷ Token kind.Name ∷ Token (kind.Mark p.Equals)
    ∷ Act (Action.Part PartAction.LocalTarget) ∷ Nonterminal Part.Value ∷ [])
    ∷ (Token (kind.Word w.Forwards) ∷ Token (kind.Word w.To) ∷ Act (Action.Part PartAction.ForwardsToTarget) ∷ Nonterminal Part.Value ∷ [])
    ∷ []
right_sides Part.Value =
    (Act (Action.Part PartAction.BeginNodes) ∷ Nonterminal Part.Expression ∷ Token (kind.Mark p.Semicolon)
    ∷ Act (Action.Part PartAction.AddEquation) ∷ []) ∷ []
right_sides Part.Expression =
    (Nonterminal Part.Integer ∷ Act (Action.Expression ExpressionAction.Number) ∷ [])
    ∷ (Token kind.String ∷ Act (Action.Expression ExpressionAction.String) ∷ [])
    ∷ (Token (kind.Word w.True) ∷ Act (Action.Expression ExpressionAction.True) ∷ [])
    ∷ (Token (kind.Word w.False) ∷ Act (Action.Expression ExpressionAction.False) ∷ [])
    ∷ (Token kind.Name ∷ Nonterminal Part.Tail ∷ [])
    ∷ (Token (kind.Word w.Top) ∷ Token (kind.Mark p.Dot) ∷ Token kind.Name ∷ Act (Action.Expression ExpressionAction.ReadTop) ∷ [])
    ∷ (Token (kind.Word w.Forward) ∷ Token (kind.Mark p.Dot) ∷ Token kind.Name ∷ Act (Action.Expression ExpressionAction.ReadForward) ∷ [])
    ∷ (Token (kind.Mark p.At) ∷ Token kind.Name ∷ Token (kind.Mark p.OpenParenthesis)
    ∷ Act (Action.Expression ExpressionAction.BeginArguments) ∷ Nonterminal Part.Arguments ∷ Token (kind.Mark p.CloseParenthesis)
    ∷ Act (Action.Expression ExpressionAction.Call) ∷ [])
    ∷ (Token (kind.Word w.If) ∷ Nonterminal Part.Expression ∷ Token (kind.Word w.Then) ∷ Nonterminal Part.Expression
    ∷ Token (kind.Word w.Else) ∷ Nonterminal Part.Expression ∷ Act (Action.Expression ExpressionAction.If) ∷ []) ∷ []
right_sides Part.Tail =
    (Act (Action.Expression ExpressionAction.Label) ∷ [])
    ∷ (Token (kind.Mark p.Dot) ∷ Nonterminal Part.Read ∷ [])
    ∷ (Token (kind.Mark p.OpenParenthesis) ∷ Act (Action.Expression ExpressionAction.BeginArguments) ∷ Nonterminal Part.Arguments
    ∷ Token (kind.Mark p.CloseParenthesis) ∷ Act (Action.Expression ExpressionAction.Build) ∷ []) ∷ []
right_sides Part.Read =
    (Token kind.Name ∷ Act (Action.Expression ExpressionAction.Read) ∷ [])
    ∷ (Token (kind.Word w.Lexeme) ∷ Act (Action.Expression ExpressionAction.Lexeme) ∷ []) ∷ []
right_sides Part.Arguments =
    []
    ∷ (Nonterminal Part.Expression ∷ Act (Action.Expression ExpressionAction.AddArgument) ∷ Nonterminal Part.FurtherArguments ∷ []) ∷ []
right_sides Part.FurtherArguments =
    []
    ∷ (Token (kind.Mark p.Comma) ∷ Nonterminal Part.Expression ∷ Act (Action.Expression ExpressionAction.AddArgument)
    ∷ Nonterminal Part.FurtherArguments ∷ []) ∷ []
right_sides Part.Integer = (Token kind.One ∷ []) ∷ (Token kind.Two ∷ []) ∷ (Token kind.Number ∷ []) ∷ []
