-- What each search in a production finds.
use Rattle.std.specs.Prelude.{◌≡◌, ℕ, List, Option, Some, Contains}
use Rattle.wb_syntax_expressions.specs.declared.node.Node.TheVariants as n
use Rattle.wb_flow_theory.specs.Occurrences.{Goes, Needs}
use Rattle.wb_flow_theory.specs.Rules.{Forwards, IsTreeAt}
use Rattle.wb_flow_theory.specs.Modular.{IsProduction, MustForward}
use Rattle.wb_flow.specs.declared.vertex.Vertex.{Vertex}
use Rattle.wb_flow.specs.declared.vertex.Vertex.TheVariants as v
use Rattle.wb_flow.specs.Rules.{attribute_at, IsDefined}
use Rattle.wb_syntax_resolved.specs.declared.attributes.Direction.TheVariants.{Synthesized}
use Rattle.wb_syntax_resolved.specs.declared.attributes.Occurrence.{Occurrence}
use Rattle.wb_syntax_resolved.specs.declared.attribution.AttributionParts.{AttributionParts}
use Rattle.wb_syntax_resolved.specs.declared.equation.Place.{Place}
use Rattle.wb_syntax_resolved.specs.declared.production.Production.{Production}
use Rattle.wb_syntax_resolved.specs.Expression.{Node}

-- the production of this number is so
abbrev pub IsSo : AttributionParts → ℕ → (Production → Type 0) → Type 0
IsSo a number holds = (production : Production) × IsProduction a number production × holds production

-- a production of the extension on a nonterminal of the host that isn't closed forwards
abbrev pub ForwardsWhereNeeded : AttributionParts → ℕ → Production → Type 0
ForwardsWhereNeeded a owner production = MustForward a owner production → Forwards production

-- the production of this number is the extension's, is on a nonterminal of the host that isn't closed and doesn't forward
abbrev pub IsWithoutForward : AttributionParts → Option ℕ → ℕ → Type 0
IsWithoutForward a extension number =
    (owner : ℕ) × (extension ≡ Some owner) × IsSo a number (λ production. MustForward a owner production × ¬ Forwards production)

-- an equation of the production is for the synthesized attribute of its top
abbrev pub DefinesAttribute : AttributionParts → Production → Occurrence → Type 0
DefinesAttribute a production o = Goes a Synthesized o.attribute → IsDefined production (v.Top o.attribute)

-- where the node reads an attribute of a child or local, each inherited one that its flow type has is defined there
abbrev pub DefinesRead : AttributionParts → Production → Node → Type 0
DefinesRead a production node = (at : Place) (x m i : ℕ) → node ≡ n.Read at x → IsTreeAt production at m → Needs a x m i
    → IsDefined production (attribute_at at i)

-- each node of an expression is so
abbrev pub DefinesReads : AttributionParts → Production → List Node → Type 0
DefinesReads a production nodes = (node : Node) → Contains nodes node → DefinesRead a production node

-- the vertex is one of these attributes of a child or local, and isn't defined
abbrev pub LacksNeeds : Production → Place → List ℕ → Vertex → Type 0
LacksNeeds production at needs vertex = (i : ℕ) × Contains needs i × (vertex ≡ attribute_at at i) × ¬ IsDefined production vertex

-- the node reads an attribute of a child or local that needs the vertex, which isn't defined
pub record LacksRead (a : AttributionParts) (production : Production) (node : Node) (vertex : Vertex) : Type 0 where
  pub at : Place
  pub attribute : ℕ
  pub nonterminal : ℕ
  pub inherited_one : ℕ
  pub reads : node ≡ n.Read at attribute
  pub tree : IsTreeAt production at nonterminal
  pub needs : Needs a attribute nonterminal inherited_one
  pub is : vertex ≡ attribute_at at inherited_one
  pub lacks : ¬ IsDefined production vertex

-- a node of an expression does
abbrev pub LacksReads : AttributionParts → Production → List Node → Vertex → Type 0
LacksReads a production nodes vertex = (node : Node) × Contains nodes node × LacksRead a production node vertex
