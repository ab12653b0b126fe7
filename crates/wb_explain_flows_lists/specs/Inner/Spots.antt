-- What a search for attributes that aren't handed down keeps.
use Rattle.std.specs.Prelude.{◌↔◌, List, Contains}
use Rattle.wb_flow.specs.Occurrences.{IsIndexOf}
use Rattle.wb_flow.specs.Rules.{IsDefined}
use Rattle.wb_flow.specs.declared.vertex.Vertex.{Vertex}
use Rattle.wb_flow_theory.specs.Modular.{IsProduction}
use Rattle.wb_syntax_resolved.specs.Attribution.{IsAttribution}
use Rattle.wb_syntax_resolved.specs.declared.attribution.AttributionParts.{AttributionParts}
use Rattle.wb_syntax_resolved.specs.declared.production.Production.{Production}
use Rattle.wb_syntax_resolved.specs.Expression.{Node}
use Rattle.wb_explain_flows_lists.specs.declared.handed.Lacking.{Lacking}
use Rattle.wb_explain_flows_lists.specs.declared.handed.Spot.{Spot}
use Rattle.wb_explain_flows_lists.specs.declared.held.Unheld.{Unheld}
use Rattle.wb_explain_flows_lists.specs.declared.rule.Rule.{Rule}
use Rattle.wb_explain_flows_lists.specs.Handed.{AreLacking, IsRuleAt}
use Rattle.wb_explain_flows_lists.specs.Held.{AreUnheld}

-- what is added lacks an equation, as what was there does
abbrev pub KeepsLacking : AttributionParts → List Lacking → List Lacking → Type 0
KeepsLacking a old new = AreLacking a old → AreLacking a new

-- what is added lacks a need, as what was there does
abbrev pub KeepsUnheld : AttributionParts → List Unheld → List Unheld → Type 0
KeepsUnheld a old new = AreUnheld a old → AreUnheld a new

-- the node is one of an expression of the equation at this place
abbrev pub IsNodeAt : Production → Rule → Node → Type 0
IsNodeAt p at node = (nodes : List Node) × IsRuleAt p at nodes × Contains nodes node

-- the production is one of the attribution, and it is known for what it has equations
pub record IsSpot (s : Spot) : Type 0 where
  pub attribution : IsAttribution s.scope.now.attributes.now
  pub index : IsIndexOf s.scope.now.attributes.now.occurrences s.scope.now.index.now
  pub there : IsProduction s.scope.now.attributes.now s.number s.production.now
  pub defined : (u : Vertex) → Contains s.defined.now u ↔ IsDefined s.production.now u
