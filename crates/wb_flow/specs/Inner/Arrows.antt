-- Edges of a flow graph by the vertices that they lead from and to, for each kind of edge.
use Rattle.std.specs.Prelude.{◌≡◌, ◌≢◌, ◌⊎◌, ℕ, List, Some, Contains, slice_get}
use Rattle.wb_flow_theory.specs.Occurrences.{Goes, IsOn}
use Rattle.wb_flow_theory.specs.Rules.{Forwards}
use Rattle.wb_flow.specs.Rules.{target_of, IsDefined}
use Rattle.wb_flow.specs.declared.arrows.Arrow.{Arrow}
use Rattle.wb_flow.specs.declared.positions.Position.{Position}
use Rattle.wb_flow.specs.declared.positions.Position.TheVariants as p
use Rattle.wb_flow.specs.declared.positions.TreeAt.{TreeAt}
use Rattle.wb_flow.specs.declared.vertex.Vertex.{Vertex}
use Rattle.wb_flow.specs.declared.vertex.Vertex.TheVariants as v
use Rattle.wb_flow.specs.Graphs.{IsNeededBy}
use Rattle.wb_flow.specs.Inner.Positions.{vertex_at, tree_at}
use Rattle.wb_syntax_resolved.specs.declared.attributes.Direction.TheVariants.{Synthesized, Inherited}
use Rattle.wb_syntax_resolved.specs.declared.attributes.Occurrence.{Occurrence}
use Rattle.wb_syntax_resolved.specs.declared.attribution.AttributionParts.{AttributionParts}
use Rattle.wb_syntax_resolved.specs.declared.equation.Equation.{Equation}
use Rattle.wb_syntax_resolved.specs.declared.production.Forward.{Forward}
use Rattle.wb_syntax_resolved.specs.declared.production.Local.{Local}
use Rattle.wb_syntax_resolved.specs.declared.production.Production.{Production}
use Rattle.wb_syntax_resolved.specs.Expression.{Node}
use Rattle.wb_flow.specs.Reads.{read_by}

-- the edge is one of the production's flow graph
abbrev pub IsArrow : AttributionParts → Production → Arrow → Type 0
IsArrow a production arrow = IsNeededBy a production arrow.from arrow.to

-- an edge from this vertex to what a node reads
abbrev pub IsReadArrow : Vertex → Node → Arrow → Type 0
IsReadArrow from node arrow = (arrow.from ≡ from) × (read_by node ≡ Some arrow.to)

-- an edge from this vertex to what an expression reads
abbrev pub IsExpressionArrow : Vertex → List Node → Arrow → Type 0
IsExpressionArrow from nodes arrow = (node : Node) × Contains nodes node × IsReadArrow from node arrow

-- an edge for a read of this equation
abbrev pub IsEquationArrow : Equation → Arrow → Type 0
IsEquationArrow e arrow = IsExpressionArrow (target_of e.target) e.nodes arrow

-- an edge for a read of the expression of the local of this number
abbrev pub IsLocalArrow : Production → ℕ → Arrow → Type 0
IsLocalArrow production x arrow =
    (l : Local) × (slice_get production.locals x ≡ Some l) × IsExpressionArrow (v.LocalTree x) l.nodes arrow

-- an edge for a read of what the production forwards to
abbrev pub IsForwardArrow : Production → Arrow → Type 0
IsForwardArrow production arrow =
    (f : Forward) × (production.forward ≡ Some f) × IsExpressionArrow v.ForwardTree f.nodes arrow

-- an edge for a read
abbrev pub IsRuleArrow : Production → Arrow → Type 0
IsRuleArrow production arrow =
    ((e : Equation) × Contains production.equations e × IsEquationArrow e arrow)
    ⊎ ((x : ℕ) × IsLocalArrow production x arrow) ⊎ IsForwardArrow production arrow

-- an edge between attributes at this position, for something in the flow type of this one
abbrev pub IsNeedArrow : Position → ℕ → ℕ → Arrow → Type 0
IsNeedArrow position number inherited arrow =
    (arrow.from ≡ vertex_at position number) × (arrow.to ≡ vertex_at position inherited)

-- an edge from a synthesized attribute at this position to the tree there, where an expression makes it
abbrev pub IsTreeArrow : AttributionParts → Position → ℕ → Arrow → Type 0
IsTreeArrow a position number arrow =
    Goes a Synthesized number × (arrow.from ≡ vertex_at position number) × (tree_at position ≡ Some arrow.to)

-- an edge from the attribute of this occurrence at this position
abbrev pub IsOccurrenceArrow : AttributionParts → Position → Occurrence → Arrow → Type 0
IsOccurrenceArrow a position o arrow =
    ((i : ℕ) × Contains o.needs i × IsNeedArrow position o.attribute i arrow) ⊎ IsTreeArrow a position o.attribute arrow

-- the tree is one step down, and the edge is from an attribute of it
abbrev pub IsBelowArrow : AttributionParts → TreeAt → Arrow → Type 0
IsBelowArrow a tree arrow = (tree.position ≢ p.Top) × ((o : Occurrence) × Contains a.occurrences o × (o.nonterminal ≡ tree.nonterminal)
    × IsOccurrenceArrow a tree.position o arrow)

-- a synthesized attribute without equation is that of the forwarded tree, and an inherited one of the forwarded tree is that of the top
abbrev pub IsCopyArrow : AttributionParts → Production → ℕ → Arrow → Type 0
IsCopyArrow a production number arrow =
    (Goes a Synthesized number × (¬ IsDefined production (v.Top number)) × (arrow.from ≡ v.Top number) × (arrow.to ≡ v.Forward number))
    ⊎ (Goes a Inherited number × (¬ IsDefined production (v.Forward number)) × (arrow.from ≡ v.Forward number)
    × (arrow.to ≡ v.Top number))

-- the production forwards, and the edge is a copy of an attribute of its left side
abbrev pub IsLeftCopyArrow : AttributionParts → Production → Arrow → Type 0
IsLeftCopyArrow a production arrow =
    Forwards production × ((number : ℕ) × IsOn a number production.left × IsCopyArrow a production number arrow)

-- the pair has the places of the edge's vertices
abbrev pub IsNumbered : List Vertex → Arrow → ℕ × ℕ → Type 0
IsNumbered vertices arrow edge = (slice_get vertices edge.0 ≡ Some arrow.from) × (slice_get vertices edge.1 ≡ Some arrow.to)
