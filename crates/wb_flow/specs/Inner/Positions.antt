-- Where a production has trees, and which vertices are there.
use Rattle.std.specs.Prelude.{◌≡◌, ◌⊎◌, ℕ, Option, None, Some, option_map, slice_get}
use Rattle.wb_base.specs.declared.symbol.Kind.TheVariants as kind
use Rattle.wb_flow_theory.specs.Occurrences.{IsOn}
use Rattle.wb_flow.specs.declared.positions.Position.{Position}
use Rattle.wb_flow.specs.declared.positions.Position.TheVariants as p
use Rattle.wb_flow.specs.declared.positions.TreeAt.{TreeAt}
use Rattle.wb_flow.specs.declared.vertex.Vertex.{Vertex}
use Rattle.wb_flow.specs.declared.vertex.Vertex.TheVariants as v
use Rattle.wb_syntax_resolved.specs.declared.attribution.AttributionParts.{AttributionParts}
use Rattle.wb_syntax_resolved.specs.declared.production.Child.{Child}
use Rattle.wb_syntax_resolved.specs.declared.production.ChildKind.{ChildKind}
use Rattle.wb_syntax_resolved.specs.declared.production.ChildKind.TheVariants as child
use Rattle.wb_syntax_resolved.specs.declared.production.Forward.{Forward}
use Rattle.wb_syntax_resolved.specs.declared.production.Local.{Local}
use Rattle.wb_syntax_resolved.specs.declared.production.Production.{Production}

-- an attribute at a position
abbrev pub vertex_at : Position → ℕ → Vertex
vertex_at p.Top number = v.Top number
vertex_at (p.Child k) number = v.Child k number
vertex_at (p.Local x) number = v.Local x number
vertex_at p.Forward number = v.Forward number

-- the tree at a position, where an expression makes it
abbrev pub tree_at : Position → Option Vertex
tree_at p.Top = None
tree_at (p.Child k) = None
tree_at (p.Local x) = Some (v.LocalTree x)
tree_at p.Forward = Some v.ForwardTree

-- the nonterminal of a child that is a tree
abbrev pub child_nonterminal : ChildKind → Option ℕ
child_nonterminal (child.Terminal number) = None
child_nonterminal (child.Value kind.Int) = None
child_nonterminal (child.Value kind.Bool) = None
child_nonterminal (child.Value kind.Text) = None
child_nonterminal (child.Value (kind.Tree nonterminal)) = Some nonterminal

abbrev pub kind_nonterminal : Option Child → Option ℕ
kind_nonterminal None = None
kind_nonterminal (Some c) = child_nonterminal c.kind

-- the nonterminal of the tree at a position
abbrev pub nonterminal_at : Production → Position → Option ℕ
nonterminal_at production p.Top = Some production.left
nonterminal_at production (p.Child k) = kind_nonterminal (slice_get production.children k)
nonterminal_at production (p.Local x) = option_map (λ (l : Local). l.nonterminal) (slice_get production.locals x)
nonterminal_at production p.Forward = option_map (λ (f : Forward). production.left) production.forward

-- the production has this tree
abbrev pub HasTree : Production → TreeAt → Type 0
HasTree production tree = nonterminal_at production tree.position ≡ Some tree.nonterminal

-- it is the tree at this position
abbrev pub IsTreeOf : Production → Position → TreeAt → Type 0
IsTreeOf production position tree = (tree.position ≡ position) × HasTree production tree

-- the vertex is an attribute of this tree
abbrev pub IsAttributeOf : AttributionParts → TreeAt → Vertex → Type 0
IsAttributeOf a tree vertex = (number : ℕ) × IsOn a number tree.nonterminal × (vertex ≡ vertex_at tree.position number)

-- the vertex is an attribute of this tree, or the tree itself
abbrev pub IsVertexOf : AttributionParts → TreeAt → Vertex → Type 0
IsVertexOf a tree vertex = (tree_at tree.position ≡ Some vertex) ⊎ IsAttributeOf a tree vertex
