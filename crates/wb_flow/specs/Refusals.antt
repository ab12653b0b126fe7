-- What the tests of flow types and cycles ask, and when each refusal is true: its rule fails there, and those before it hold.
use Rattle.std.specs.Prelude.{◌≡◌, ◌<◌, ◌+◌, ◌-◌, ℕ, List, Option, None, Some, length, slice_get}
use Rattle.wb_base.specs.Different.{Differ}
use Rattle.wb_flow_theory.specs.Vertices.{top_synthesized, top_inherited, tree_of, forward}
use Rattle.wb_flow_theory.specs.Occurrences.{Occurs, Needs, ForwardNeeds}
use Rattle.wb_flow_theory.specs.Flow.{Reaches}
use Rattle.wb_flow_theory.specs.WellDefined.{KeepsFlowTypes, KeepsForwardFlowType, IsAcyclic}
use Rattle.wb_flow_theory.specs.Modular.{IsProduction, EachProduction, HoldForwardNeeds}
use Rattle.wb_syntax_resolved.specs.declared.attributes.Direction.TheVariants.{Synthesized}
use Rattle.wb_syntax_resolved.specs.declared.attribution.AttributionParts.{AttributionParts}
use Rattle.wb_syntax_resolved.specs.declared.production.Production.{Production}
use Rattle.wb_flow.specs.declared.refusal.AttributeRefusal.{AttributeRefusal}
use Rattle.wb_flow.specs.declared.refusal.AttributeRefusal.TheVariants as r
use Rattle.wb_flow.specs.declared.vertex.Vertex.{Vertex}
use Rattle.wb_flow.specs.Graphs.{IsNeededBy}

-- each production keeps to its flow types
pub record KeepToFlowTypes (a : AttributionParts) : Type 0 where
  pub attributes : EachProduction a (KeepsFlowTypes a)
  pub forwards : EachProduction a (KeepsForwardFlowType a)

-- flow types have what those of forwards have, productions keep to them, and nothing in a production needs itself
pub record FlowsOk (a : AttributionParts) : Type 0 where
  pub forward_needs : HoldForwardNeeds a
  pub flow_types : KeepToFlowTypes a
  pub acyclic : EachProduction a (IsAcyclic a)

-- the flow type of the attribute on the nonterminal lacks what the flow type of the nonterminal's forward has
pub record LacksForwardNeed (a : AttributionParts) (nonterminal attribute inherited : ℕ) : Type 0 where
  pub occurs : Occurs a Synthesized attribute nonterminal
  pub forward : ForwardNeeds a nonterminal inherited
  pub lacks : ¬ Needs a attribute nonterminal inherited

-- the synthesized attribute, or where none is given the forwarded tree, reaches an inherited one that its flow type hasn't
abbrev pub ReachesOutside : AttributionParts → Production → Option ℕ → ℕ → Type 0
ReachesOutside a production (Some attribute) inherited =
    Occurs a Synthesized attribute production.left × Reaches a production (top_synthesized attribute) (top_inherited inherited)
    × ¬ Needs a attribute production.left inherited
ReachesOutside a production None inherited =
    Reaches a production (tree_of forward) (top_inherited inherited) × ¬ ForwardNeeds a production.left inherited

-- flow types have what those of forwards have, and the production doesn't keep to one
pub record HasReadOutside (a : AttributionParts) (number : ℕ) (attribute : Option ℕ) (inherited : ℕ) : Type 0 where
  pub forward_needs : HoldForwardNeeds a
  pub production : Production
  pub there : IsProduction a number production
  pub reaches : ReachesOutside a production attribute inherited

-- the vertices are a cycle of the production's flow graph: each is there once and needs the next, and the last needs the first
pub record IsFlowCycle (a : AttributionParts) (production : Production) (vertices : List Vertex) : Type 0 where
  pub nonempty : 0 < length vertices
  pub next : (k : ℕ) (u v : Vertex) → slice_get vertices k ≡ Some u → slice_get vertices (k + 1) ≡ Some v → IsNeededBy a production u v
  pub closes : (u v : Vertex) → slice_get vertices (length vertices - 1) ≡ Some u → slice_get vertices 0 ≡ Some v
      → IsNeededBy a production u v
  pub once : Differ vertices

-- flow types are kept, and the production has a cycle of these vertices
pub record HasFlowCycle (a : AttributionParts) (number : ℕ) (vertices : List Vertex) : Type 0 where
  pub forward_needs : HoldForwardNeeds a
  pub flow_types : KeepToFlowTypes a
  pub production : Production
  pub there : IsProduction a number production
  pub cycle : IsFlowCycle a production vertices

-- the refusal is one of these tests, and true
abbrev pub IsTrueFlowRefusal : AttributionParts → AttributeRefusal → Type 0
IsTrueFlowRefusal a (r.LacksForward nonterminal attribute inherited) = LacksForwardNeed a nonterminal attribute inherited
IsTrueFlowRefusal a (r.Reads production attribute inherited) = HasReadOutside a production attribute inherited
IsTrueFlowRefusal a (r.Cycle production vertices) = HasFlowCycle a production vertices
IsTrueFlowRefusal a (r.NoMemory error) = Unit {0}
IsTrueFlowRefusal a other = ⊥
