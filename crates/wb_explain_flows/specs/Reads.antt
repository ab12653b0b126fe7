-- What is said where something needs what isn't in a flow type, or needs itself.
use Rattle.std.specs.Prelude.{◌≡◌, ℕ, List, Option, Some, None}
use Rattle.wb_complete.specs.ForwardRefusals.{HasForwardRead}
use Rattle.wb_explain_places.specs.declared.source.Source.{Source}
use Rattle.wb_flow.specs.Refusals.{HasReadOutside}
use Rattle.wb_flow.specs.declared.vertex.Vertex.{Vertex}
use Rattle.wb_flow.specs.declared.vertex.Vertex.TheVariants as v
use Rattle.wb_flow_theory.specs.Modular.{IsProduction}
use Rattle.wb_syntax_resolved.specs.declared.attribution.AttributionParts.{AttributionParts}
use Rattle.wb_syntax_resolved.specs.declared.production.Production.{Production}
use Rattle.wb_explain_flows.specs.declared.chain.Step.{Step}
use Rattle.wb_explain_flows.specs.Steps.{SaysChain}

-- a synthesized attribute of the left side, or the forwarded tree where none is given
abbrev pub source_vertex : Option ℕ → Vertex
source_vertex None = v.ForwardTree
source_vertex (Some attribute) = v.Top attribute

-- why a chain is shown in the production of this number
pub data IsReason (a : AttributionParts) (number : ℕ) (ends : Step) : Type 0 where
  -- it leads from an attribute or the forwarded tree to one that isn't in its flow type
  outside : (attribute : Option ℕ) (inherited : ℕ) → HasReadOutside a number attribute inherited
      → ends.from ≡ source_vertex attribute → ends.to ≡ v.Top inherited → IsReason a number ends
  -- it leads from an attribute that an extension's equation gives to the forwarded tree to one that isn't in the flow type of the forward
  given : (attribute inherited : ℕ) → HasForwardRead a 1 number attribute inherited
      → ends.from ≡ v.Forward attribute → ends.to ≡ v.Top inherited → IsReason a number ends
  -- it leads back to where it begins
  round : ends.from ≡ ends.to → IsReason a number ends

-- a chain of reads of a production is shown, for one of these reasons
pub record SaysReads (source : Source) (a : AttributionParts) (old new : List ℕ) : Type 0 where
  pub number : ℕ
  pub production : Production
  pub there : IsProduction a number production
  pub ends : Step
  pub reason : IsReason a number ends
  pub chain : SaysChain source a production ends old new
