-- What the laws say of the definitions.
use Rattle.std.specs.Prelude.{◌≡◌, ℕ, List}
use Rattle.wb_syntax_resolved.specs.declared.attributes.Direction.TheVariants.{Synthesized, Inherited}
use Rattle.wb_syntax_resolved.specs.declared.attribution.AttributionParts.{AttributionParts}
use Rattle.wb_syntax_resolved.specs.declared.production.Production.{Production}
use Rattle.wb_syntax_resolved.specs.Expression.{Node}
use Rattle.wb_flow_theory.specs.Vertices.{Vertex}
use Rattle.wb_flow_theory.specs.Occurrences.{Occurs, HasFlowType, Needs, ForwardNeeds}
use Rattle.wb_flow_theory.specs.Rules.{IsRule}
use Rattle.wb_flow_theory.specs.Flow.{IsVertex, HasFlowEdge}

-- edges of the production's flow graph lead from vertices of it to vertices of it
abbrev pub AreEdgesWithin : AttributionParts → Production → Type 0
AreEdgesWithin a production = (v w : Vertex) → HasFlowEdge a production v w → IsVertex a production v × IsVertex a production w

-- a vertex is defined by one expression at most
abbrev pub HasOneRule : Production → Type 0
HasOneRule production = (v : Vertex) (first second : List Node) → IsRule production v first → IsRule production v second → first ≡ second

-- an attribute has one flow type at most on a nonterminal
abbrev pub HasOneFlowType : AttributionParts → Type 0
HasOneFlowType a = (x m : ℕ) (first second : List ℕ) → HasFlowType a x m first → HasFlowType a x m second → first ≡ second

-- a flow type that has something is a synthesized attribute's, and has only inherited attributes of the nonterminal
abbrev pub HaveFlowTypesInherited : AttributionParts → Type 0
HaveFlowTypesInherited a = (x m i : ℕ) → Needs a x m i → Occurs a Synthesized x m × Occurs a Inherited i m

-- so has that of a nonterminal's forward
abbrev pub HaveForwardsInherited : AttributionParts → Type 0
HaveForwardsInherited a = (m i : ℕ) → ForwardNeeds a m i → Occurs a Inherited i m
