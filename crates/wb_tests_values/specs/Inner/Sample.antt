-- A host with one nonterminal, one attribute on it, and one production with one equation.
use Rattle.std.specs.Prelude.{◌≡◌, ℕ, false, List, [], ◌∷◌, None, codes}
use Rattle.wb_base.specs.declared.symbol.Kind.TheVariants as kind
use Rattle.wb_syntax_expressions.specs.declared.node.Node.TheVariants as n
use Rattle.wb_syntax_resolved.specs.declared.attributes.Attribute.{Attribute}
use Rattle.wb_syntax_resolved.specs.declared.attributes.Direction.TheVariants.{Synthesized}
use Rattle.wb_syntax_resolved.specs.declared.attributes.Nonterminal.{Nonterminal}
use Rattle.wb_syntax_resolved.specs.declared.attributes.Occurrence.{Occurrence}
use Rattle.wb_syntax_resolved.specs.declared.attribution.AttributionParts.{AttributionParts}
use Rattle.wb_syntax_resolved.specs.declared.equation.Equation.{Equation}
use Rattle.wb_syntax_resolved.specs.declared.equation.Target.TheVariants as target
use Rattle.wb_syntax_resolved.specs.declared.production.Production.{Production}
use Rattle.wb_syntax_resolved.specs.declared.production.ProductionRole.TheVariants.{Abstract}
use Rattle.wb_syntax_resolved.specs.Expression.{Node}
use Rattle.wb_values.specs.Signature.{Signature}

-- the nonterminal N
abbrev pub nonterminal_n : Nonterminal
nonterminal_n = record { name = codes "N"; owner = 0; closed = false; forward_needs = [] }

-- the synthesized attribute v, a number
abbrev pub attribute_v : Attribute
attribute_v = record { name = codes "v"; owner = 0; direction = Synthesized; kind = kind.Int }

-- v occurs on N
abbrev pub v_on_n : Occurrence
v_on_n = record { owner = 0; attribute = 0; nonterminal = 0; needs = [] }

-- top.v is this node, from byte 7 on
abbrev pub equation_of : Node → Equation
equation_of node = record { owner = 0; offset = 7; target = target.Top 0; nodes = node ∷ [] }

-- the abstract production p of N
abbrev pub production_p : Node → Production
production_p node = record {
  name = codes "p";
  owner = 0;
  role = Abstract;
  left = 0;
  children = [];
  locals = [];
  forward = None;
  equations = equation_of node ∷ [];
}

-- its signature
abbrev pub signature_p : Signature
signature_p = record { name = codes "p"; left = 0; children = [] }

-- the attributes of the host
abbrev pub sample : Node → AttributionParts
sample node = record {
  extensions = [];
  nonterminals = nonterminal_n ∷ [];
  attributes = attribute_v ∷ [];
  occurrences = v_on_n ∷ [];
  productions = production_p node ∷ [];
  signatures = signature_p ∷ [];
}

-- a node without parts whose names are names
abbrev pub IsSampleNode : Node → Type 0
IsSampleNode (n.Int z) = Unit {0}
IsSampleNode (n.Bool truth) = Unit {0}
IsSampleNode (n.Call operation arguments) = (arguments ≡ []) × (operation ≡ codes "frob")
IsSampleNode other = ⊥
