-- What each test of a production asks and tells.
use Rattle.std.specs.Prelude.{◌≡◌, ◌⊎◌, ℕ, Bool, true, false}
use Rattle.wb_flow_theory.specs.Vertices.{forward, made, top_inherited, inherited}
use Rattle.wb_flow_theory.specs.Occurrences.{ForwardNeeds}
use Rattle.wb_flow_theory.specs.Rules.{HasRule}
use Rattle.wb_flow_theory.specs.Flow.{Reaches}
use Rattle.wb_flow_theory.specs.Modular.{IsProduction, IsBridging}
use Rattle.wb_flow.specs.declared.refusal.AttributeRefusal.{AttributeRefusal}
use Rattle.wb_flow.specs.declared.refusal.AttributeRefusal.TheVariants as r
use Rattle.wb_flow.specs.declared.vertex.Vertex.{Vertex}
use Rattle.wb_flow.specs.declared.vertex.Vertex.TheVariants as v
use Rattle.wb_flow.specs.Graphs.{IsFlowGraph}
use Rattle.wb_flow.specs.Tops.{KnowsTops, IsSelection}
use Rattle.wb_complete.specs.declared.equations.Reading.{Reading}
use Rattle.wb_complete.specs.declared.equations.Tested.{Tested}
use Rattle.wb_complete.specs.ForwardRefusals.{ReadsOutside}
use Rattle.wb_syntax_resolved.specs.Attribution.{IsAttribution}
use Rattle.wb_syntax_resolved.specs.declared.attribution.AttributionParts.{AttributionParts}
use Rattle.wb_syntax_resolved.specs.declared.equation.Target.{Target}
use Rattle.wb_syntax_resolved.specs.declared.equation.Target.TheVariants as target
use Rattle.wb_syntax_resolved.specs.declared.production.Production.{Production}

-- the production has this number in the attribution, and the graph is its flow graph
pub record IsTested (tested : Tested) : Type 0 where
  pub attribution : IsAttribution tested.scope.now.attributes.now
  pub there : IsProduction tested.scope.now.attributes.now tested.number tested.production.now
  pub graph : IsFlowGraph tested.scope.now.attributes.now tested.production.now tested.graph.now

-- the inherited attribute of the top is in the flow type of the forward, or is the attribute itself
abbrev pub IsAllowed : AttributionParts → Production → ℕ → ℕ → Type 0
IsAllowed a production attribute inherited_one = ForwardNeeds a production.left inherited_one ⊎ (inherited_one ≡ attribute)

-- what the equation for this attribute of the forwarded tree reaches is allowed
abbrev pub KeepsFor : AttributionParts → Production → ℕ → Type 0
KeepsFor a production attribute = (inherited_one : ℕ) → HasRule production (inherited (made forward) attribute)
    → Reaches a production (inherited (made forward) attribute) (top_inherited inherited_one)
    → IsAllowed a production attribute inherited_one

-- what each equation for an attribute of the forwarded tree reaches is allowed
abbrev pub KeepsForward : AttributionParts → Production → Type 0
KeepsForward a production = (attribute : ℕ) → KeepsFor a production attribute

-- so it is where the vertex is such an attribute
abbrev pub KeepsFrom : AttributionParts → Production → Vertex → Type 0
KeepsFrom a production vertex = (attribute : ℕ) → vertex ≡ v.Forward attribute → KeepsFor a production attribute

-- so it is where the production is the extension's on a nonterminal of the host
abbrev pub KeepsWhereBridging : AttributionParts → ℕ → Production → Type 0
KeepsWhereBridging a extension production = IsBridging a extension production → KeepsForward a production

-- the production is tested, what its vertices reach is known, and the set has what the flow type of the forward has
pub record IsReading (reading : Reading) : Type 0 where
  pub tested : IsTested reading.tested.now
  pub reach : KnowsTops reading.tested.now.scope.now.attributes.now reading.tested.now.graph.now reading.reach.now
  pub allowed : IsSelection reading.reach.now
      (ForwardNeeds reading.tested.now.scope.now.attributes.now reading.tested.now.production.now.left) reading.allowed.now

-- the refusal tells that the production of this number has an equation that reaches outside, unless memory ran out
abbrev pub RefusesProduction : AttributionParts → ℕ → Production → AttributeRefusal → Type 0
RefusesProduction a number production (r.ForwardReads shown attribute inherited_one) =
    (shown ≡ number) × ReadsOutside a production attribute inherited_one
RefusesProduction a number production (r.NoMemory error) = Unit {0}
RefusesProduction a number production other = ⊥

-- whether an equation of this target is for the forwarded tree
abbrev pub is_forward : Target → Bool
is_forward (target.Top attribute) = false
is_forward (target.Place at attribute) = false
is_forward (target.Forward attribute) = true
