-- When the attributes of a production are well defined.
use Rattle.std.specs.Prelude.{◌≡◌, ◌⊎◌, ℕ, List}
use Rattle.wb_syntax_resolved.specs.declared.attributes.Direction.TheVariants.{Synthesized}
use Rattle.wb_syntax_resolved.specs.declared.attribution.AttributionParts.{AttributionParts}
use Rattle.wb_syntax_resolved.specs.declared.production.Production.{Production}
use Rattle.wb_syntax_resolved.specs.Expression.{Node}
use Rattle.wb_flow_theory.specs.Vertices.{forward, Step, made, Vertex, top_synthesized, top_inherited, synthesized, inherited, tree_of}
use Rattle.wb_flow_theory.specs.Occurrences.{Occurs, Needs, ForwardNeeds}
use Rattle.wb_flow_theory.specs.Rules.{Forwards, IsBelow, IsRule, HasRule, Reads}
use Rattle.wb_flow_theory.specs.Flow.{Reaches}

-- each synthesized attribute of the left side has an equation, or the production forwards
abbrev pub DefinesTop : AttributionParts → Production → Type 0
DefinesTop a production = (x : ℕ) → Occurs a Synthesized x production.left → HasRule production (top_synthesized x) ⊎ Forwards production

-- an expression of the production reads the attribute one step down, where its flow type on the nonterminal has the inherited attribute
pub record ReadNeeds (a : AttributionParts) (production : Production) (s : Step) (inherited_one : ℕ) : Type 0 where
  pub vertex : Vertex
  pub nodes : List Node
  pub attribute : ℕ
  pub nonterminal : ℕ
  pub rule : IsRule production vertex nodes
  pub reads : Reads nodes (synthesized s attribute)
  pub below : IsBelow production s nonterminal
  pub needs : Needs a attribute nonterminal inherited_one

-- where an attribute one step down is read, each inherited one that its flow type has has an equation, but at the forwarded tree
abbrev pub DefinesBelow : AttributionParts → Production → Type 0
DefinesBelow a production = (s : Step) (i : ℕ) → ReadNeeds a production s i → HasRule production (inherited s i) ⊎ (s ≡ made forward)

-- the top's inherited attributes that a synthesized one reaches are in its flow type
abbrev pub KeepsFlowTypes : AttributionParts → Production → Type 0
KeepsFlowTypes a production = (x i : ℕ) → Occurs a Synthesized x production.left
    → Reaches a production (top_synthesized x) (top_inherited i) → Needs a x production.left i

-- those that the forwarded tree reaches are in the flow type of the forward
abbrev pub KeepsForwardFlowType : AttributionParts → Production → Type 0
KeepsForwardFlowType a production = (i : ℕ) → Reaches a production (tree_of forward) (top_inherited i) → ForwardNeeds a production.left i

-- nothing needs itself
abbrev pub IsAcyclic : AttributionParts → Production → Type 0
IsAcyclic a production = (v : Vertex) → ¬ Reaches a production v v

-- the production's attributes are well defined
pub record IsWellDefinedProduction (a : AttributionParts) (production : Production) : Type 0 where
  pub top : DefinesTop a production
  pub below : DefinesBelow a production
  pub flow_types : KeepsFlowTypes a production
  pub forward_flow_type : KeepsForwardFlowType a production
  pub acyclic : IsAcyclic a production
