-- What is certified excludes refusals, and a refusal of one sort excludes those of another.
use Rattle.std.proofs.Common.{◌≡◌, ◌⊎◌, inl, inr, ℕ, List, Some, sym, subst, ◌∙◌}
use Rattle.std.specs.Prelude.{Option}
use Rattle.std.proofs.lemmas.Option.{same_Some}
use Rattle.wb_flow_theory.specs.Modular.{AreWellDefinedAttributes, ForwardEquationsReach}
use Rattle.wb_base.specs.Grammar.{GrammarView}
use Rattle.wb_certify_host.specs.Refusals.{IsAttributeMemory, IsTypeMemory}
use Rattle.wb_certify_host.specs.declared.refusal.CertifyRefusal.{CertifyRefusal}
use Rattle.wb_certify_host.specs.declared.refusal.CertifyRefusal.TheVariants as c
use Rattle.wb_complete.specs.Refusals.{CompleteOk, IsTrueCompletenessRefusal}
use Rattle.wb_complete.proofs.AnswerLemmas as completeness
use Rattle.wb_certify_host.specs.DeterminismRefusals.{IsNoMemory}
use Rattle.wb_certify_host.specs.determinism_refusal.DeterminismRefusal.{DeterminismRefusal}
use Rattle.wb_certify_host.specs.determinism_refusal.DeterminismRefusal.TheVariants as d
use Rattle.wb_determinism_beside.specs.DeterministicExtensions.{IsDeterministicExtension}
use Rattle.wb_determinism_beside.specs.ExtensionDeterminism.{IsExtensionRefusal}
use Rattle.wb_flow.specs.Refusals.{FlowsOk, IsTrueFlowRefusal}
use Rattle.wb_flow.specs.declared.refusal.AttributeRefusal.{AttributeRefusal}
use Rattle.wb_flow.specs.declared.refusal.AttributeRefusal.TheVariants as a
use Rattle.wb_flow.proofs.CheckLemmas.{flows_one_answer}
use Rattle.wb_complete.specs.ForwardRefusals.{HasForwardRead, IsTrueForwardRefusal}
use Rattle.wb_marking.proofs.RefusalLemmas.{bridges_excluded, clash_excluded}
use Rattle.wb_marking_holes.specs.Holes.{with_holes_of}
use Rattle.wb_operations.specs.Operations.{OperationSignature}
use Rattle.wb_syntax_resolved.specs.declared.attribution.AttributionParts.{AttributionParts}
use Rattle.wb_syntax_resolved.specs.declared.resolved.ResolvedParts.{ResolvedParts}
use Rattle.wb_types.specs.Refusals.{IsTrueRefusal}
use Rattle.wb_types.specs.Rules.{KindsOk}
use Rattle.wb_types.specs.declared.refusal.TypeRefusal.{TypeRefusal}
use Rattle.wb_types.specs.declared.refusal.TypeRefusal.TheVariants as t
use Rattle.wb_types.proofs.AnswerLemmas as kinds
use Rattle.wb_certify.specs.Extensions.{AreMarkersKept, IsCertifiedBeside, IsDeterministicBeside}
use Rattle.wb_certify.specs.OneAnswer.{HasOneAnswer}
use Rattle.wb_certify.specs.Refusals.{IsAttributeRefusal, IsBesideRefusal, IsMemory, IsNotDeterministic, IsReason}

-- what is true where an extension is deterministic, as a law below says
abbrev pub RulesOut : Type 0
RulesOut = (r : ResolvedParts) (g host : GrammarView) (refusal : DeterminismRefusal) → IsExtensionRefusal r g host refusal
    → IsDeterministicExtension r g host → IsNoMemory refusal

-- and where equations for forwarded trees keep to flow types
abbrev pub ForwardsRuleOut : Type 0
ForwardsRuleOut = (x : AttributionParts) (extension production attribute inherited : ℕ) → ForwardEquationsReach x extension
    → ¬ HasForwardRead x extension production attribute inherited

-- what follows from each of three
of_three : {A B C D : Type 0} → (A → D) → (B → D) → (C → D) → A ⊎ B ⊎ C → D
of_three first second third (inl is) = first is
of_three first second third (inr (inl is)) = second is
of_three first second third (inr (inr is)) = third is

-- kinds
types_excluded : (x : AttributionParts) (operations : List OperationSignature) → KindsOk x operations → (refusal : TypeRefusal)
    → IsTrueRefusal x operations refusal → IsTypeMemory refusal
types_excluded x operations ok (t.UnknownOperation name) is = absurd (((kinds.one_answer x operations).rules ok).unknown name is)
types_excluded x operations ok (t.WrongArity at) is = absurd (((kinds.one_answer x operations).rules ok).arity at is)
types_excluded x operations ok (t.TypeMismatch at) is = absurd (((kinds.one_answer x operations).rules ok).kind at is)
types_excluded x operations ok (t.NoMemory error) is = tt

-- markers and determinism
reasons_excluded : RulesOut → (r : ResolvedParts) (g host : GrammarView) → AreMarkersKept r g → IsDeterministicExtension r g host
    → (refusal : DeterminismRefusal) → IsReason r g host refusal → IsNoMemory refusal
reasons_excluded out r g host kept is (d.Markers refusal) reason = elim reason.0 [
  | inl bridge ↦ bridges_excluded r g refusal kept.bridges bridge
  | inr clash ↦ clash_excluded r refusal kept.clashes clash.2
]
reasons_excluded out r g host kept is (d.PreferenceCycle cycle) reason = absurd (is.both.fit.sound.acyclic cycle reason.1.cycle_is)
reasons_excluded out r g host kept is (d.NotReduced x) reason = out r g host (d.NotReduced x) reason.1 is
reasons_excluded out r g host kept is (d.UnitCycle list) reason = out r g host (d.UnitCycle list) reason.1 is
reasons_excluded out r g host kept is (d.HiddenLeftRecursion list) reason = out r g host (d.HiddenLeftRecursion list) reason.1 is
reasons_excluded out r g host kept is (d.Conflict prefix terminal first second) reason =
    out r g host (d.Conflict prefix terminal first second) reason.1 is
reasons_excluded out r g host kept is (d.Clash prefix left right text) reason = out r g host (d.Clash prefix left right text) reason.1 is
reasons_excluded out r g host kept is (d.Lookahead prefix item terminal) reason =
    out r g host (d.Lookahead prefix item terminal) reason.1 is
reasons_excluded out r g host kept is (d.Envelope prefix fault) reason = out r g host (d.Envelope prefix fault) reason.1 is
reasons_excluded out r g host kept is (d.NoMemory error) reason = tt

-- attributes
module _ (forwards_out : ForwardsRuleOut) (x : AttributionParts) (start : Option ℕ) (ok : AreWellDefinedAttributes x start (Some 1)) where
  complete : CompleteOk x start (Some 1)
  complete = record {
    start_inherits = ok.start_inherits;
    forwards = ok.forwards;
    top = λ number production there. (ok.productions number production there).top;
    below = λ number production there. (ok.productions number production there).below;
  }

  flows : FlowsOk x
  flows = record {
    forward_needs = ok.forward_needs;
    flow_types = record {
      attributes = λ number production there. (ok.productions number production there).flow_types;
      forwards = λ number production there. (ok.productions number production there).forward_flow_type;
    };
    acyclic = λ number production there. (ok.productions number production there).acyclic;
  }

  complete_excluded : (refusal : AttributeRefusal) → IsTrueCompletenessRefusal x start (Some 1) refusal → IsAttributeMemory refusal
  complete_excluded (a.StartInherits i) is = absurd (((completeness.one_answer x start (Some 1)).rules complete).start_inherits i is)
  complete_excluded (a.NoForward p) is = absurd (((completeness.one_answer x start (Some 1)).rules complete).forwards p is)
  complete_excluded (a.NoEquation p i) is = absurd (((completeness.one_answer x start (Some 1)).rules complete).top p i is)
  complete_excluded (a.NoInherited p v) is = absurd (((completeness.one_answer x start (Some 1)).rules complete).below p v is)
  complete_excluded (a.LacksForward m i j) is = absurd is
  complete_excluded (a.Reads p i j) is = absurd is
  complete_excluded (a.Cycle p vertices) is = absurd is
  complete_excluded (a.ForwardReads p i j) is = absurd is
  complete_excluded (a.NoMemory error) is = tt

  flows_excluded : (refusal : AttributeRefusal) → IsTrueFlowRefusal x refusal → IsAttributeMemory refusal
  flows_excluded (a.StartInherits i) is = absurd is
  flows_excluded (a.NoForward p) is = absurd is
  flows_excluded (a.NoEquation p i) is = absurd is
  flows_excluded (a.NoInherited p v) is = absurd is
  flows_excluded (a.LacksForward m i j) is = absurd (((flows_one_answer x).rules flows).lacks m i j is)
  flows_excluded (a.Reads p i j) is = absurd (((flows_one_answer x).rules flows).reads p i j is)
  flows_excluded (a.Cycle p vertices) is = absurd (((flows_one_answer x).rules flows).cycle p vertices is)
  flows_excluded (a.ForwardReads p i j) is = absurd is
  flows_excluded (a.NoMemory error) is = tt

  forward_excluded : (refusal : AttributeRefusal) → IsTrueForwardRefusal x 1 refusal → IsAttributeMemory refusal
  forward_excluded (a.StartInherits i) is = absurd is
  forward_excluded (a.NoForward p) is = absurd is
  forward_excluded (a.NoEquation p i) is = absurd is
  forward_excluded (a.NoInherited p v) is = absurd is
  forward_excluded (a.LacksForward m i j) is = absurd is
  forward_excluded (a.Reads p i j) is = absurd is
  forward_excluded (a.Cycle p vertices) is = absurd is
  forward_excluded (a.ForwardReads p i j) is = absurd (forwards_out x 1 p i j ok.forward_equations is)
  forward_excluded (a.NoMemory error) is = tt

  attributes_excluded : (refusal : AttributeRefusal) → IsAttributeRefusal x start refusal → IsAttributeMemory refusal
  attributes_excluded refusal =
      of_three (complete_excluded refusal) (λ is. flows_excluded refusal is.1) (λ is. forward_excluded refusal is.2)

module _ (out : RulesOut) (forwards_out : ForwardsRuleOut) (host r : ResolvedParts) (operations : List OperationSignature) where
  -- a reason excludes that the extension is deterministic beside the host
  beside_excluded : (refusal : DeterminismRefusal) (host_grammar grammar : GrammarView) → host.grammar ≡ Some host_grammar
      → r.grammar ≡ Some grammar → IsDeterministicBeside host r host_grammar grammar → IsNotDeterministic host r operations refusal
      → IsNoMemory refusal
  beside_excluded refusal host_grammar grammar host_start start is not =
      let same_host = same_Some host_grammar not.host_grammar (sym host_start ∙ not.host_start) in
      let same = same_Some grammar not.grammar (sym start ∙ not.start) in
      let here : IsDeterministicBeside host r not.host_grammar not.grammar =
      subst (λ (k : GrammarView). IsDeterministicBeside host r k not.grammar) same_host
      (subst (λ (k : GrammarView). IsDeterministicBeside host r host_grammar k) same is) in
      reasons_excluded out r not.grammar (with_holes_of not.host_grammar host.extensible) here.markers here.deterministic refusal not.reason

  certified_excludes : IsCertifiedBeside host r operations → (refusal : CertifyRefusal) → IsBesideRefusal host r operations refusal
      → IsMemory refusal
  certified_excludes is (c.Names refusal) true_one = absurd true_one
  certified_excludes is (c.Types refusal) true_one =
      absurd (true_one.1 (types_excluded r.attributes operations is.kinds refusal true_one.0))
  certified_excludes is c.NoStart true_one = absurd true_one
  certified_excludes is (c.Determinism refusal) true_one =
      absurd (true_one.1 (beside_excluded refusal is.host_grammar is.grammar is.host_start is.start is.deterministic true_one.0))
  certified_excludes is (c.Attributes refusal) true_one =
      absurd (true_one.1 (attributes_excluded forwards_out r.attributes (Some is.grammar.start) is.attributes refusal
      (subst (λ (k : GrammarView). IsAttributeRefusal r.attributes (Some k.start) refusal)
      (same_Some true_one.0.grammar is.grammar (sym true_one.0.start ∙ is.start)) true_one.0.reason)))
  certified_excludes is (c.NoMemory error) true_one = tt

  pub one_answer : HasOneAnswer host r operations
  one_answer = record {
    certified = certified_excludes;
    sorts = record {
      kinds_determinism = λ x y first second. first.1 (types_excluded r.attributes operations second.0.kinds x first.0);
      kinds_attributes = λ x y first second. first.1 (types_excluded r.attributes operations second.0.kinds x first.0);
      determinism_attributes = λ x y first second.
          let s = second.0 in first.1 (beside_excluded x s.host_grammar s.grammar s.host_start s.start s.deterministic first.0);
    };
  }
