-- The tokens of kinds, needs, children and equations.
use Rattle.std.specs.Prelude.{◌≡◌, ℕ, List, [], ◌∷◌, ◌++◌, Option, Some, None}
use Rattle.wb_text_tokens.specs.declared.token.Token.{Token}
use Rattle.wb_text_tokens.specs.declared.token.Token.TheVariants as t
use Rattle.wb_text_tokens.specs.declared.word.Word.TheVariants as w
use Rattle.wb_text_tokens.specs.declared.punctuation.Punctuation.TheVariants as p
use Rattle.wb_syntax.specs.declared.expression.Equation.{Equation}
use Rattle.wb_syntax.specs.declared.expression.Target.{Target}
use Rattle.wb_syntax.specs.declared.expression.Target.TheVariants as g
use Rattle.wb_syntax.specs.declared.production.NamedKind.{NamedKind}
use Rattle.wb_syntax.specs.declared.production.NamedKind.TheVariants as k
use Rattle.wb_syntax.specs.declared.production.Child.{Child}
use Rattle.wb_syntax.specs.Expression.{Expression}
use Rattle.wb_syntax_expressions.specs.Expression.{nodes_of}
use Rattle.wb_reader_printer.specs.Inner.ExpressionTokens.{expression_tokens}

-- a kind
abbrev pub kind_token : NamedKind → Token
kind_token k.Int = t.Word w.Int
kind_token k.Bool = t.Word w.Bool
kind_token k.Text = t.Word w.Text
kind_token (k.Name name) = t.Name name

-- names with a comma before each
abbrev pub further_names : List (List ℕ) → List Token
further_names [] = []
further_names (n ∷ ns) = t.Punctuation p.Comma ∷ t.Name n ∷ further_names ns

-- names with commas between them
abbrev pub names_tokens : List (List ℕ) → List Token
names_tokens [] = []
names_tokens (n ∷ ns) = t.Name n ∷ further_names ns

-- the needs of these names
abbrev pub needs_tokens : List (List ℕ) → List Token
needs_tokens names = t.Word w.Needs ∷ t.Punctuation p.OpenBrace ∷ (names_tokens names ++ t.Punctuation p.CloseBrace ∷ [])

-- needs where they are written
abbrev pub optional_needs_tokens : Option (List (List ℕ)) → List Token
optional_needs_tokens None = []
optional_needs_tokens (Some names) = needs_tokens names

-- children
abbrev pub children_tokens : List Child → List Token
children_tokens [] = []
children_tokens (child ∷ rest) = t.Name child.label ∷ t.Punctuation p.Colon ∷ kind_token child.kind ∷ children_tokens rest

-- what comes before the expression of an equation
abbrev pub target_tokens : Target → List Token
target_tokens (g.Top attribute) = t.Word w.Top ∷ t.Punctuation p.Dot ∷ t.Name attribute ∷ t.Punctuation p.Equals ∷ []
target_tokens (g.Label label attribute) = t.Name label ∷ t.Punctuation p.Dot ∷ t.Name attribute ∷ t.Punctuation p.Equals ∷ []
target_tokens (g.Forward attribute) = t.Word w.Forward ∷ t.Punctuation p.Dot ∷ t.Name attribute ∷ t.Punctuation p.Equals ∷ []
target_tokens (g.Local label nonterminal) =
    t.Word w.Local ∷ t.Name label ∷ t.Punctuation p.Colon ∷ t.Name nonterminal ∷ t.Punctuation p.Equals ∷ []
target_tokens g.ForwardsTo = t.Word w.Forwards ∷ t.Word w.To ∷ []

-- the tokens are these equations
pub data AreEquationTokens : List Equation → List Token → Type 0 where
  nothing : AreEquationTokens [] []
  next : {equation : Equation} (e : Expression) {rest : List Equation} {tokens whole : List Token} → equation.nodes ≡ nodes_of e
      → AreEquationTokens rest tokens
      → whole ≡ target_tokens equation.target ++ (expression_tokens e ++ t.Punctuation p.Semicolon ∷ tokens)
      → AreEquationTokens (equation ∷ rest) whole

-- equations with their braces
abbrev pub block_tokens : List Token → List Token
block_tokens equations = t.Punctuation p.OpenBrace ∷ (equations ++ t.Punctuation p.CloseBrace ∷ [])
