-- The expressions that a production's rules are, as trees.
use Rattle.std.specs.Prelude.{ℕ, zero, suc, Bool, true, false, ◌&&◌, nat_eq, List, [], ◌∷◌, Option, Some, None, length, slice_get}
use Rattle.wb_syntax_expressions.specs.declared.node.Node.TheVariants as n
use Rattle.wb_syntax_expressions.specs.Expression as x
use Rattle.wb_flow_theory.specs.Vertices.{Made, local, forward, Step, child, made, Vertex, top_synthesized, top_inherited, synthesized}
use Rattle.wb_flow_theory.specs.Vertices.{inherited, tree_of}
use Rattle.wb_flow_theory.specs.Rules.{target_vertex}
use Rattle.wb_syntax_resolved.specs.declared.equation.Equation.{Equation}
use Rattle.wb_syntax_resolved.specs.declared.production.Forward.{Forward}
use Rattle.wb_syntax_resolved.specs.declared.production.Local.{Local}
use Rattle.wb_syntax_resolved.specs.declared.production.Production.{Production}
use Rattle.wb_syntax_resolved.specs.Expression.{Expression, Expressions, Node}

-- the last expressions of those that were read, the last one first, in their order; and the others
abbrev pub last_of : ℕ → List Expression → Expressions → Option (Expressions × List Expression)
last_of zero read parts = Some (parts, read)
last_of (suc count) [] parts = None
last_of (suc count) (e ∷ read) parts = last_of count read (x.more e parts)

-- what was read after a node whose parts were read last
abbrev pub with_parts : (Expressions → Expression) → Option (Expressions × List Expression) → Option (List Expression)
with_parts whole None = None
with_parts whole (Some found) = Some (whole found.0 ∷ found.1)

abbrev pub with_branches : List Expression → Option (List Expression)
with_branches (fails ∷ holds ∷ condition ∷ read) = Some (x.If condition holds fails ∷ read)
with_branches other = None

-- what was read after one node more
abbrev pub read_node : Node → List Expression → Option (List Expression)
read_node (n.Int z) read = Some (x.Int z ∷ read)
read_node (n.Text s) read = Some (x.Text s ∷ read)
read_node (n.Bool b) read = Some (x.Truth b ∷ read)
read_node (n.Label at) read = Some (x.Label at ∷ read)
read_node (n.Read at attribute) read = Some (x.Read at attribute ∷ read)
read_node (n.Lexeme at) read = Some (x.Lexeme at ∷ read)
read_node (n.Top attribute) read = Some (x.Top attribute ∷ read)
read_node (n.Forward attribute) read = Some (x.Forward attribute ∷ read)
read_node (n.Build production children) read = with_parts (x.Build production) (last_of (length children) read x.none)
read_node (n.Call operation arguments) read = with_parts (x.Call operation) (last_of (length arguments) read x.none)
read_node (n.If condition holds fails) read = with_branches read

-- what was read after these nodes, from left to right
abbrev pub read_more : List Node → Option (List Expression) → Option (List Expression)
read_more nodes None = None
read_more [] (Some read) = Some read
read_more (node ∷ nodes) (Some read) = read_more nodes (read_node node read)

abbrev pub only_one : Option (List Expression) → Option Expression
only_one (Some (e ∷ [])) = Some e
only_one other = None

-- the expression that the nodes are, each node with the parts that were read last before it
unfoldable pub expression_of : List Node → Option Expression
expression_of nodes = only_one (read_more nodes (Some []))

-- two vertices are one
abbrev pub same_made : Made → Made → Bool
same_made (local k) (local l) = nat_eq k l
same_made forward forward = true
same_made _ _ = false

abbrev pub same_step : Step → Step → Bool
same_step (child k) (child l) = nat_eq k l
same_step (made k) (made l) = same_made k l
same_step _ _ = false

abbrev pub same_vertex : Vertex → Vertex → Bool
same_vertex (top_synthesized y) (top_synthesized z) = nat_eq y z
same_vertex (top_inherited y) (top_inherited z) = nat_eq y z
same_vertex (synthesized s y) (synthesized t z) = same_step s t && nat_eq y z
same_vertex (inherited s y) (inherited t z) = same_step s t && nat_eq y z
same_vertex (tree_of k) (tree_of l) = same_made k l
same_vertex _ _ = false

-- the expression of the first equation for the vertex
abbrev pub equation_for : Vertex → List Equation → Option Expression
equation_for v [] = None
equation_for v (e ∷ es) = elim (same_vertex v (target_vertex e.target)) [ true ↦ expression_of e.nodes | false ↦ equation_for v es ]

abbrev pub local_expression : Option Local → Option Expression
local_expression None = None
local_expression (Some l) = expression_of l.nodes

abbrev pub forward_expression : Option Forward → Option Expression
forward_expression None = None
forward_expression (Some f) = expression_of f.nodes

-- the expression by which the production defines the vertex
unfoldable pub rule_of : Production → Vertex → Option Expression
rule_of production (tree_of (local k)) = local_expression (slice_get production.locals k)
rule_of production (tree_of forward) = forward_expression production.forward
rule_of production v = equation_for v production.equations
