-- What has a flow type in a production: a synthesized attribute of its top, or the forwarded tree.
use Rattle.std.specs.Prelude.{◌≡◌, ◌<◌, ℕ, List, Option, None, Some, Contains, slice_get}
use Rattle.wb_flow_theory.specs.Vertices.{top_inherited}
use Rattle.wb_flow_theory.specs.Occurrences.{Goes, Needs, ForwardNeeds}
use Rattle.wb_flow_theory.specs.Flow.{Reaches}
use Rattle.wb_flow_theory.specs.Modular.{IsProduction}
use Rattle.wb_flow_theory.specs.WellDefined.{IsAcyclic, KeepsFlowTypes, KeepsForwardFlowType}
use Rattle.wb_graph.specs.Graphs.{Edge, IsEdge}
use Rattle.wb_flow.specs.declared.tested.Tested.{Tested}
use Rattle.wb_flow.specs.declared.refusal.AttributeRefusal.{AttributeRefusal}
use Rattle.wb_flow.specs.declared.refusal.AttributeRefusal.TheVariants as r
use Rattle.wb_flow.specs.declared.vertex.Vertex.{Vertex}
use Rattle.wb_flow.specs.declared.vertex.Vertex.TheVariants as v
use Rattle.wb_flow.specs.Graphs.{IsFlowGraph}
use Rattle.wb_flow.specs.Occurrences.{IsIndexOf}
use Rattle.wb_flow.specs.Refusals.{LacksForwardNeed, ReachesOutside, IsFlowCycle}
use Rattle.wb_flow.specs.Vertices.{vertex_of}
use Rattle.wb_syntax_resolved.specs.declared.attributes.Direction.TheVariants.{Synthesized}
use Rattle.wb_syntax_resolved.specs.declared.attributes.Occurrence.{Occurrence}
use Rattle.wb_syntax_resolved.specs.declared.attribution.AttributionParts.{AttributionParts}
use Rattle.wb_syntax_resolved.specs.declared.production.Production.{Production}
use Rattle.wb_syntax_resolved.specs.Attribution.{IsAttribution}

-- the vertex is that of the synthesized attribute, or that of the forwarded tree where none is given
abbrev pub IsSource : AttributionParts → Vertex → Option ℕ → Type 0
IsSource a vertex (Some attribute) = (vertex ≡ v.Top attribute) × Goes a Synthesized attribute
IsSource a vertex None = vertex ≡ v.ForwardTree

-- its flow type has the inherited attribute
abbrev pub Allows : AttributionParts → Production → Option ℕ → ℕ → Type 0
Allows a production (Some attribute) inherited = Needs a attribute production.left inherited
Allows a production None inherited = ForwardNeeds a production.left inherited

-- what the vertex reaches is in its flow type, where it has one
abbrev pub KeepsFrom : AttributionParts → Production → Vertex → Type 0
KeepsFrom a production vertex = (source : Option ℕ) (i : ℕ) → IsSource a vertex source
    → Reaches a production (vertex_of a vertex) (top_inherited i) → Allows a production source i

-- the production keeps to its flow types
abbrev pub KeepsAll : AttributionParts → Production → Type 0
KeepsAll a production = KeepsFlowTypes a production × KeepsForwardFlowType a production

-- the refusal tells that the production of this number doesn't keep to its flow types, unless memory ran out
abbrev pub RefusesReads : AttributionParts → ℕ → Production → AttributeRefusal → Type 0
RefusesReads a number production (r.Reads shown attribute inherited) =
    (shown ≡ number) × ReachesOutside a production attribute inherited
RefusesReads a number production (r.NoMemory error) = Unit {0}
RefusesReads a number production other = ⊥

-- the refusal tells of a cycle in the production of this number, unless memory ran out
abbrev pub RefusesCycle : AttributionParts → ℕ → Production → AttributeRefusal → Type 0
RefusesCycle a number production (r.Cycle shown vertices) = (shown ≡ number) × IsFlowCycle a production vertices
RefusesCycle a number production (r.NoMemory error) = Unit {0}
RefusesCycle a number production other = ⊥

-- the production has this number in the attribution, whose occurrences are indexed, and the graph is its flow graph
pub record IsTested (tested : Tested) : Type 0 where
  pub attribution : IsAttribution tested.scope.now.attributes.now
  pub index : IsIndexOf tested.scope.now.attributes.now.occurrences tested.scope.now.index.now
  pub there : IsProduction tested.scope.now.attributes.now tested.number tested.production.now
  pub graph : IsFlowGraph tested.scope.now.attributes.now tested.production.now tested.graph.now

-- the flow type of the occurrence has what that of its nonterminal's forward has, where its attribute is synthesized
abbrev pub HoldsForward : AttributionParts → Occurrence → Type 0
HoldsForward a o = Goes a Synthesized o.attribute → (i : ℕ) → ForwardNeeds a o.nonterminal i → Contains o.needs i

-- the refusal tells that a flow type lacks what that of a forward has, unless memory ran out
abbrev pub RefusesForward : AttributionParts → AttributeRefusal → Type 0
RefusesForward a (r.LacksForward nonterminal attribute inherited) = LacksForwardNeed a nonterminal attribute inherited
RefusesForward a (r.NoMemory error) = Unit {0}
RefusesForward a other = ⊥

-- the refusal tells of some production that it doesn't keep to its flow types, unless memory ran out
abbrev pub RefusesAnyReads : AttributionParts → AttributeRefusal → Type 0
RefusesAnyReads a refusal =
    (number : ℕ) × (production : Production) × IsProduction a number production × RefusesReads a number production refusal

-- the refusal tells of a cycle in some production, unless memory ran out
abbrev pub RefusesAnyCycle : AttributionParts → AttributeRefusal → Type 0
RefusesAnyCycle a refusal =
    (number : ℕ) × (production : Production) × IsProduction a number production × RefusesCycle a number production refusal

-- what was known of cycles stays; where none was known, one of this production is now, or it has none
abbrev pub Notes : AttributionParts → ℕ → Production → (old new : Option AttributeRefusal) → Type 0
Notes a number production (Some known) new = new ≡ Some known
Notes a number production None (Some refusal) = RefusesCycle a number production refusal
Notes a number production None None = IsAcyclic a production

-- a cycle of some production is known, or none of the first productions has one
abbrev pub KnowsCycle : AttributionParts → (count : ℕ) → Option AttributeRefusal → Type 0
KnowsCycle a count (Some refusal) = RefusesAnyCycle a refusal
KnowsCycle a count None =
    (number : ℕ) (production : Production) → number < count → IsProduction a number production → IsAcyclic a production

-- the edge leads to another component than its own
abbrev pub LeavesComponent : (numbers : List ℕ) → Edge → Type 0
LeavesComponent numbers edge = (n : ℕ) → slice_get numbers edge.0 ≡ Some n → ¬ (slice_get numbers edge.1 ≡ Some n)

-- each edge does
abbrev pub LeaveComponents : List Edge → (numbers : List ℕ) → Type 0
LeaveComponents edges numbers = (u v : ℕ) → IsEdge edges u v → LeavesComponent numbers (u, v)
