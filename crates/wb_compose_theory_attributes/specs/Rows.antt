-- The rows of an attribution in new numbers.
use Rattle.std.specs.Prelude.{ℕ, zero, suc, map}
use Rattle.wb_base.specs.declared.symbol.Kind.{Kind}
use Rattle.wb_base.specs.declared.symbol.Kind.TheVariants as kind
use Rattle.wb_syntax_expressions.specs.declared.node.Node.TheVariants as n
use Rattle.wb_syntax_resolved.specs.declared.attributes.Attribute.{Attribute}
use Rattle.wb_syntax_resolved.specs.declared.attributes.Nonterminal.{Nonterminal}
use Rattle.wb_syntax_resolved.specs.declared.attributes.Occurrence.{Occurrence}
use Rattle.wb_syntax_resolved.specs.declared.equation.Equation.{Equation}
use Rattle.wb_syntax_resolved.specs.declared.equation.Place.{Place}
use Rattle.wb_syntax_resolved.specs.declared.equation.Place.TheVariants as place
use Rattle.wb_syntax_resolved.specs.declared.equation.Target.{Target}
use Rattle.wb_syntax_resolved.specs.declared.equation.Target.TheVariants as target
use Rattle.wb_syntax_resolved.specs.declared.production.Child.{Child}
use Rattle.wb_syntax_resolved.specs.declared.production.ChildKind.{ChildKind}
use Rattle.wb_syntax_resolved.specs.declared.production.ChildKind.TheVariants as child
use Rattle.wb_syntax_resolved.specs.declared.production.Forward.{Forward}
use Rattle.wb_syntax_resolved.specs.declared.production.Local.{Local}
use Rattle.wb_syntax_resolved.specs.Expression.{Node}
use Rattle.wb_compose_theory_attributes.specs.Numbers.{NumberMap}

-- whose something is in a union: what is the host's stays so, and what is the only extension's where it is alone is owner k's
abbrev pub new_owner : (k owner : ℕ) → ℕ
new_owner k zero = zero
new_owner k (suc other) = k

-- a kind, and what a child is
abbrev pub new_kind : NumberMap → Kind → Kind
new_kind t kind.Int = kind.Int
new_kind t kind.Bool = kind.Bool
new_kind t kind.Text = kind.Text
new_kind t (kind.Tree m) = kind.Tree (t.nonterminal m)

abbrev pub new_child_kind : NumberMap → ChildKind → ChildKind
new_child_kind t (child.Terminal number) = child.Terminal (t.terminal number)
new_child_kind t (child.Value is) = child.Value (new_kind t is)

abbrev pub new_child : NumberMap → Child → Child
new_child t c = record { label = c.label; kind = new_child_kind t c.kind }

-- a nonterminal, an attribute and an occurrence
abbrev pub new_nonterminal : NumberMap → ℕ → Nonterminal → Nonterminal
new_nonterminal t k r =
    record { name = r.name; owner = new_owner k r.owner; closed = r.closed; forward_needs = map t.attribute r.forward_needs }

abbrev pub new_attribute : NumberMap → ℕ → Attribute → Attribute
new_attribute t k r =
    record { name = r.name; owner = new_owner k r.owner; direction = r.direction; kind = new_kind t r.kind }

abbrev pub new_occurrence : NumberMap → ℕ → Occurrence → Occurrence
new_occurrence t k r = record {
  owner = new_owner k r.owner;
  attribute = t.attribute r.attribute;
  nonterminal = t.nonterminal r.nonterminal;
  needs = map t.attribute r.needs;
}

-- what is written on the production of this number
module _ (t : NumberMap) (p : ℕ) where
  -- a child or local, and a node of an expression
  abbrev pub new_place : Place → Place
  new_place (place.Child k) = place.Child k
  new_place (place.Local x) = place.Local (t.local_in p x)

  abbrev pub new_node : Node → Node
  new_node (n.Label label) = n.Label (new_place label)
  new_node (n.Read label attribute) = n.Read (new_place label) (t.attribute attribute)
  new_node (n.Lexeme label) = n.Lexeme (new_place label)
  new_node (n.Top attribute) = n.Top (t.attribute attribute)
  new_node (n.Forward attribute) = n.Forward (t.attribute attribute)
  new_node (n.Build number children) = n.Build (t.production number) children
  new_node node = node

  abbrev pub new_target : Target → Target
  new_target (target.Top attribute) = target.Top (t.attribute attribute)
  new_target (target.Place at attribute) = target.Place (new_place at) (t.attribute attribute)
  new_target (target.Forward attribute) = target.Forward (t.attribute attribute)

  -- an equation, a local and what the production forwards to
  abbrev pub new_equation : ℕ → Equation → Equation
  new_equation k e = record {
    owner = new_owner k e.owner;
    offset = e.offset;
    target = new_target e.target;
    nodes = map new_node e.nodes;
  }

  abbrev pub new_local : ℕ → Local → Local
  new_local k l = record {
    label = l.label;
    owner = new_owner k l.owner;
    offset = l.offset;
    nonterminal = t.nonterminal l.nonterminal;
    nodes = map new_node l.nodes;
  }

  abbrev pub new_forward : Forward → Forward
  new_forward f = record { offset = f.offset; nodes = map new_node f.nodes }
