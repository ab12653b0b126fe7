-- What a node of an expression reads.
use Rattle.std.specs.Prelude.{Option, None, Some}
use Rattle.wb_syntax_expressions.specs.declared.node.Node.TheVariants as n
use Rattle.wb_flow.specs.Rules.{attribute_at}
use Rattle.wb_flow.specs.declared.vertex.Vertex.{Vertex}
use Rattle.wb_flow.specs.declared.vertex.Vertex.TheVariants as v
use Rattle.wb_syntax_resolved.specs.declared.equation.Place.{Place}
use Rattle.wb_syntax_resolved.specs.declared.equation.Place.TheVariants as place
use Rattle.wb_syntax_resolved.specs.Expression.{Node}

-- what a node reads
abbrev pub label_read : Place → Option Vertex
label_read (place.Child k) = None
label_read (place.Local x) = Some (v.LocalTree x)

abbrev pub read_by : Node → Option Vertex
read_by (n.Label at) = label_read at
read_by (n.Read at number) = Some (attribute_at at number)
read_by (n.Top number) = Some (v.Top number)
read_by (n.Forward number) = Some (v.Forward number)
read_by node = None
