-- What actions make of the parts of expressions.
use Rattle.std.specs.Prelude.{ℕ, true, false, List, [], ◌∷◌, ◌++◌, length}
use Rattle.wb_syntax.specs.Expression.{Node}
use Rattle.wb_syntax_expressions.specs.declared.node.Node.TheVariants as n
use Rattle.wb_reader_builder.specs.declared.expressions.ExpressionAction.{ExpressionAction}
use Rattle.wb_reader_builder.specs.declared.builder.SpecBuilder.{SpecBuilder}
use Rattle.wb_reader_builder.specs.Builder.{on_top}

-- the node goes after the last nodes, and is a part
abbrev pub with_node : Node → SpecBuilder → SpecBuilder
with_node node v = on_top v.nodes v (λ nodes rest. record v { nodes = (nodes ++ node ∷ []) ∷ rest; roots = length nodes ∷ v.roots })

-- the last integer
abbrev pub with_number : SpecBuilder → SpecBuilder
with_number v = on_top v.integers v (λ value rest. with_node (n.Int value) (record v { integers = rest }))

-- the last string
abbrev pub with_string : SpecBuilder → SpecBuilder
with_string v = on_top v.texts v (λ text rest. with_node (n.Text text) (record v { texts = rest }))

-- the last name as a value, or the text of its child
abbrev pub with_label : (List ℕ → Node) → SpecBuilder → SpecBuilder
with_label node v = on_top v.names v (λ name rest. with_node (node name.bytes) (record v { names = rest }))

-- the attribute of the last name, of the child or local of the name before it
abbrev pub with_read : SpecBuilder → SpecBuilder
with_read v = on_top v.names v (λ attribute names. on_top names (record v { names = names })
    (λ label rest. with_node (n.Read label.bytes attribute.bytes) (record v { names = rest })))

-- the attribute of the last name, of the top or of the forwarded tree: the last place is of no more use
abbrev pub with_placed_read : (List ℕ → Node) → SpecBuilder → SpecBuilder
with_placed_read node v = on_top v.starts v (λ at rest. with_label node (record v { starts = rest }))

-- arguments begin
abbrev pub with_arguments : SpecBuilder → SpecBuilder
with_arguments v = record v { arguments = [] ∷ v.arguments }

-- the last part goes to the end of the last arguments
abbrev pub with_argument : SpecBuilder → SpecBuilder
with_argument v = on_top v.roots v (λ root roots. on_top v.arguments (record v { roots = roots })
    (λ arguments rest. record v { roots = roots; arguments = (arguments ++ root ∷ []) ∷ rest }))

-- the last name over the last arguments: a tree of a production, or the result of an operation
abbrev pub with_call : (List ℕ → List ℕ → Node) → SpecBuilder → SpecBuilder
with_call node v = on_top v.arguments v (λ arguments others. on_top v.names (record v { arguments = others })
    (λ name rest. with_node (node name.bytes arguments) (record v { arguments = others; names = rest })))

-- the last three parts are a condition and its branches
abbrev pub with_if : SpecBuilder → SpecBuilder
with_if v = on_top v.roots v (λ fails behind. on_top behind (record v { roots = behind })
    (λ holds before. on_top before (record v { roots = before })
    (λ condition rest. with_node (n.If condition holds fails) (record v { roots = rest }))))

-- what an action on expressions makes of the parts
abbrev pub expression_act : ExpressionAction → SpecBuilder → SpecBuilder
expression_act ExpressionAction.Number v = with_number v
expression_act ExpressionAction.String v = with_string v
expression_act ExpressionAction.True v = with_node (n.Bool true) v
expression_act ExpressionAction.False v = with_node (n.Bool false) v
expression_act ExpressionAction.ReadTop v = with_placed_read (λ a. n.Top a) v
expression_act ExpressionAction.ReadForward v = with_placed_read (λ a. n.Forward a) v
expression_act ExpressionAction.BeginArguments v = with_arguments v
expression_act ExpressionAction.Call v = with_call (λ name list. n.Call name list) v
expression_act ExpressionAction.If v = with_if v
expression_act ExpressionAction.Label v = with_label (λ l. n.Label l) v
expression_act ExpressionAction.Build v = with_call (λ name list. n.Build name list) v
expression_act ExpressionAction.Read v = with_read v
expression_act ExpressionAction.Lexeme v = with_label (λ l. n.Lexeme l) v
expression_act ExpressionAction.AddArgument v = with_argument v
