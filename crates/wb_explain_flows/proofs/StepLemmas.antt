-- What is said of a step, and of a chain.
use Rattle.std.proofs.Common.{◌≡◌, ◌++◌, inl, inr, ◌∙◌, ℕ, List, Some, refl, subst, ap, append_assoc, Contains, slice_get}
use lib.Chars.{codes}
use Rattle.wb_explain_places.specs.Place.{Shows, place_lines}
use Rattle.wb_explain_places.specs.declared.source.Source.{Source}
use Rattle.wb_flow.specs.declared.vertex.Vertex.{Vertex}
use Rattle.wb_flow.specs.declared.vertex.Vertex.TheVariants as v
use Rattle.wb_flow_theory.specs.Modular.{IsProduction}
use Rattle.wb_syntax_resolved.specs.declared.attribution.AttributionParts.{AttributionParts}
use Rattle.wb_syntax_resolved.specs.declared.equation.Equation.{Equation}
use Rattle.wb_syntax_resolved.specs.declared.production.Local.{Local}
use Rattle.wb_syntax_resolved.specs.declared.production.Production.{Production}
use Rattle.wb_explain_flows.specs.declared.chain.Step.{Step}
use Rattle.wb_explain_flows_lists.specs.declared.rule.Rule.{Rule}
use Rattle.wb_explain_flows.specs.Inner.Equations.{IsEquationAt, IsForwardAt, IsLocalAt}
use Rattle.wb_explain_flows.specs.Chains.{IsChain, IsNeeded}
use Rattle.wb_explain_flows_lists.specs.Files.{text_of}
use Rattle.wb_explain_flows_lists.specs.Lists.{HasText, Lists}
use Rattle.wb_explain_flows.specs.Inner.Either.{SaysChainOr, SaysReadsOr}
use Rattle.wb_explain_flows.specs.Places.{IsPlaceText}
use Rattle.wb_explain_flows.specs.Reads.{IsReason}
use Rattle.wb_explain_flows.specs.Rules.{IsReadAt, by_equation, by_local, by_forward}
use Rattle.wb_explain_flows.specs.Steps.{IsStepText, step_text, reads, needs}

-- the lines that show a place
place_shown : (file text : List ℕ) (at : ℕ) (old new : List ℕ) → Shows file text at old new
    → (lines : List ℕ) × IsPlaceText text at lines × (new ≡ old ++ lines)
place_shown file text at old new s = (
  place_lines file text at s.start s.end,
  record { file = file; start = s.start; end = s.end; line = s.line; are = refl },
  s.lines,
)

module _ (source : Source) (a : AttributionParts) (p : Production) (step : Step) where
  -- a step by an equation
  pub step_read : (rule : Rule) (file text old paired colon new : List ℕ) → IsReadAt p step.from step.to rule
      → text ≡ text_of source rule.owner → paired ≡ old ++ step_text a p step (codes " reads ") → colon ≡ paired ++ codes ":\n\n"
      → Shows file text rule.offset colon new → HasText (IsStepText source a p step) old new
  step_read rule file text old paired colon new is text_is paired_is colon_is shows =
      let (lines, place, end) = place_shown file text rule.offset colon new shows in
      let pair = step_text a p step (codes " reads ") in (
        pair ++ codes ":\n\n" ++ lines,
        reads rule lines is (subst (λ z. IsPlaceText z rule.offset lines) text_is place) refl,
        end ∙ (ap (λ z. z ++ lines) (colon_is ∙ ap (λ z. z ++ codes ":\n\n") paired_is)
            ∙ (ap (λ z. z ++ lines) (append_assoc old pair (codes ":\n\n")) ∙ append_assoc old (pair ++ codes ":\n\n") lines)),
      )

  -- another step
  pub step_need : (old paired new more : List ℕ) → paired ≡ old ++ step_text a p step (codes " needs ") → new ≡ paired ++ more
      → HasText (IsStepText source a p step) old new
  step_need old paired new more paired_is new_is =
      let pair = step_text a p step (codes " needs ") in (
        pair ++ more,
        needs more refl,
        new_is ∙ (ap (λ z. z ++ more) paired_is ∙ append_assoc old pair more),
      )

-- steps that are a chain are listed
pub chain_said : (source : Source) (a : AttributionParts) (p : Production) (ends : Step) (steps : List Step) (old new : List ℕ)
    → IsChain ends.from ends.to steps → ((s : Step) → Contains steps s → IsNeeded a p s)
    → Lists (IsStepText source a p) steps old new → SaysChainOr source a p ends old new
chain_said source a p ends steps old new chain needed lists =
    inr (record { steps = steps; chain = chain; needed = needed; lists = lists })

-- a chain that is shown for a reason
pub reads_said : (source : Source) (a : AttributionParts) (number : ℕ) (p : Production) (ends : Step) (old new : List ℕ)
    → IsProduction a number p → IsReason a number ends → SaysChainOr source a p ends old new → SaysReadsOr source a old new
reads_said source a number p ends old new there reason (inl same) = inl same
reads_said source a number p ends old new there reason (inr chain) =
    inr (record { number = number; production = p; there = there; ends = ends; reason = reason; chain = chain })

module _ (p : Production) (from to : Vertex) where
  -- the equation of an attribute, of a local, of the forward
  pub equation_at : (equations : List Equation) → equations ≡ p.equations → (at : Rule) → IsEquationAt equations from to at
      → IsReadAt p from to at
  equation_at equations same at is =
      by_equation is.equation (subst (λ (z : List Equation). Contains z is.equation) same is.listed) is.defines is.reads is.owner is.offset

  pub local_at : (k : ℕ) → from ≡ v.LocalTree k → (locals : List Local) → locals ≡ p.locals → (at : Rule) → IsLocalAt locals k to at
      → IsReadAt p from to at
  local_at k is locals same at (l, there, made) =
      by_local k l (subst (λ (z : List Local). slice_get z k ≡ Some l) same there) is made.reads made.owner made.offset

  pub forward_at : from ≡ v.ForwardTree → (at : Rule) → IsForwardAt p to at → IsReadAt p from to at
  forward_at is at made = by_forward made.forward made.there is made.reads made.owner made.offset
