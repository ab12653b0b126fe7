-- Expressions by names: what is at a label, an attribute, a production or an operation is a text.
use Rattle.std.specs.Prelude.{ℕ, List}
use Rattle.wb_syntax_expressions.specs.declared.node.Node as node
use Rattle.wb_syntax_expressions.specs.Expression as expression

-- an expression
abbrev pub Expression : Type 0
Expression = expression.Expression (List ℕ) (List ℕ) (List ℕ) (List ℕ)

-- expressions in order
abbrev pub Expressions : Type 0
Expressions = expression.Expressions (List ℕ) (List ℕ) (List ℕ) (List ℕ)

-- a node of one
abbrev pub Node : Type 0
Node = node.Node (List ℕ) (List ℕ) (List ℕ) (List ℕ)
