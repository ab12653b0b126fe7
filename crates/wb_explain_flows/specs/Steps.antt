-- What is said of a chain of reads.
use Rattle.std.specs.Prelude.{◌≡◌, ◌++◌, ℕ, List, Contains}
use lib.Chars.{codes}
use Rattle.wb_explain_places.specs.declared.source.Source.{Source}
use Rattle.wb_syntax_resolved.specs.declared.attribution.AttributionParts.{AttributionParts}
use Rattle.wb_syntax_resolved.specs.declared.production.Production.{Production}
use Rattle.wb_explain_flows.specs.declared.chain.Step.{Step}
use Rattle.wb_explain_flows_lists.specs.declared.rule.Rule.{Rule}
use Rattle.wb_explain_flows.specs.Chains.{IsChain, IsNeeded}
use Rattle.wb_explain_flows.specs.Places.{IsPlaceText}
use Rattle.wb_explain_flows_lists.specs.Files.{text_of}
use Rattle.wb_explain_flows_lists.specs.Lists.{Lists}
use Rattle.wb_explain_flows_lists.specs.Names.{vertex_text}
use Rattle.wb_explain_flows.specs.Rules.{IsReadAt}

-- both ends of a step, with a word between them
abbrev pub step_text : AttributionParts → Production → Step → List ℕ → List ℕ
step_text a p step word = codes "\n" ++ vertex_text a p step.from ++ word ++ vertex_text a p step.to

-- what is said of a step: that one reads the other, by the equation whose place is shown; or that one needs the other
pub data IsStepText (source : Source) (a : AttributionParts) (p : Production) (step : Step) (text : List ℕ) : Type 0 where
  reads : (at : Rule) (lines : List ℕ) → IsReadAt p step.from step.to at → IsPlaceText (text_of source at.owner) at.offset lines
      → text ≡ step_text a p step (codes " reads ") ++ codes ":\n\n" ++ lines → IsStepText source a p step text
  needs : (more : List ℕ) → text ≡ step_text a p step (codes " needs ") ++ more → IsStepText source a p step text

-- the steps of a chain from one vertex to another are listed, each of which is one of the production's flow graph
pub record SaysChain (source : Source) (a : AttributionParts) (p : Production) (ends : Step) (old new : List ℕ) : Type 0 where
  pub steps : List Step
  pub chain : IsChain ends.from ends.to steps
  pub needed : (step : Step) → Contains steps step → IsNeeded a p step
  pub lists : Lists (IsStepText source a p) steps old new
