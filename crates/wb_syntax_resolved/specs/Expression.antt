-- Expressions by numbers: a label is a place, an attribute and a production are numbers, and an operation has its name.
use Rattle.std.specs.Prelude.{ℕ, List}
use Rattle.wb_syntax_expressions.specs.declared.node.Node as node
use Rattle.wb_syntax_expressions.specs.Expression as expression
use Rattle.wb_syntax_resolved.specs.declared.equation.Place.{Place}

-- an expression
abbrev pub Expression : Type 0
Expression = expression.Expression Place ℕ ℕ (List ℕ)

-- expressions in order
abbrev pub Expressions : Type 0
Expressions = expression.Expressions Place ℕ ℕ (List ℕ)

-- a node of one
abbrev pub Node : Type 0
Node = node.Node Place ℕ ℕ (List ℕ)
