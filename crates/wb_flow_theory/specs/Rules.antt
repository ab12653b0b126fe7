-- What a production defines, what its expressions read, and which nonterminals are one step down.
use Rattle.std.specs.Prelude.{◌≡◌, ℕ, List, Option, Some, None, Contains, IsSome, slice_get}
use Rattle.wb_base.specs.declared.symbol.Kind.TheVariants as kind
use Rattle.wb_syntax_expressions.specs.declared.node.Node.TheVariants as n
use Rattle.wb_syntax_resolved.specs.declared.equation.Equation.{Equation}
use Rattle.wb_syntax_resolved.specs.declared.equation.Place.{Place}
use Rattle.wb_syntax_resolved.specs.declared.equation.Place.TheVariants as place
use Rattle.wb_syntax_resolved.specs.declared.equation.Target.{Target}
use Rattle.wb_syntax_resolved.specs.declared.equation.Target.TheVariants as target
use Rattle.wb_syntax_resolved.specs.declared.production.ChildKind.TheVariants as child_kind
use Rattle.wb_syntax_resolved.specs.declared.production.Forward.{Forward}
use Rattle.wb_syntax_resolved.specs.declared.production.Local.{Local}
use Rattle.wb_syntax_resolved.specs.declared.production.Production.{Production}
use Rattle.wb_syntax_resolved.specs.Expression.{Node}
use Rattle.wb_syntax_resolved.specs.Visible.{kind_at}
use Rattle.wb_flow_theory.specs.Vertices.{Step, child, made, local, forward, Vertex, top_synthesized, top_inherited, synthesized, inherited}
use Rattle.wb_flow_theory.specs.Vertices.{tree_of, step_to}

-- the production forwards
abbrev pub Forwards : Production → Type 0
Forwards production = IsSome production.forward

-- there is a tree of this nonterminal at the child or local
abbrev pub IsTreeAt : Production → Place → ℕ → Type 0
IsTreeAt production at nonterminal = kind_at production at ≡ Some (child_kind.Value (kind.Tree nonterminal))

-- there is a tree of this nonterminal one step down; what is forwarded to is one of the left side
abbrev pub IsBelow : Production → Step → ℕ → Type 0
IsBelow production (child k) nonterminal = IsTreeAt production (place.Child k) nonterminal
IsBelow production (made (local x)) nonterminal = IsTreeAt production (place.Local x) nonterminal
IsBelow production (made forward) nonterminal = Forwards production × (production.left ≡ nonterminal)

-- the vertex that an equation of this target defines
abbrev pub target_vertex : Target → Vertex
target_vertex (target.Top attribute) = top_synthesized attribute
target_vertex (target.Place at attribute) = inherited (step_to at) attribute
target_vertex (target.Forward attribute) = inherited (made forward) attribute

-- the production defines the vertex by the expression of these nodes
pub data IsRule (production : Production) (v : Vertex) (nodes : List Node) : Type 0 where
  -- an attribute by an equation
  by_equation : (e : Equation) → Contains production.equations e → v ≡ target_vertex e.target → nodes ≡ e.nodes → IsRule production v nodes
  -- the tree of a local
  by_local : (x : ℕ) (l : Local) → slice_get production.locals x ≡ Some l → v ≡ tree_of (local x) → nodes ≡ l.nodes
      → IsRule production v nodes
  -- the forwarded tree
  by_forward : (f : Forward) → production.forward ≡ Some f → v ≡ tree_of forward → nodes ≡ f.nodes → IsRule production v nodes

-- the production defines the vertex
abbrev pub HasRule : Production → Vertex → Type 0
HasRule production v = (nodes : List Node) × IsRule production v nodes

-- the tree that a child or local is read for as a value: a local's is made by an expression, a child's is there
abbrev pub place_read : Place → Option Vertex
place_read (place.Child k) = None
place_read (place.Local x) = Some (tree_of (local x))

-- what a node of an expression reads, if it reads a vertex
abbrev pub node_read : Node → Option Vertex
node_read (n.Label at) = place_read at
node_read (n.Read at attribute) = Some (synthesized (step_to at) attribute)
node_read (n.Top attribute) = Some (top_inherited attribute)
node_read (n.Forward attribute) = Some (synthesized (made forward) attribute)
node_read node = None

-- the expression of these nodes reads the vertex
abbrev pub Reads : List Node → Vertex → Type 0
Reads nodes v = (node : Node) × Contains nodes node × (node_read node ≡ Some v)
