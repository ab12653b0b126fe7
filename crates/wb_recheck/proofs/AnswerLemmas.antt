-- What is certified, and of which the text is a certificate, has no refusal but out of memory.
use Rattle.std.proofs.Common.{◌≡◌, inl, inr, ℕ, List, Some, None, sym, subst, ap, ◌∙◌}
use Rattle.std.specs.Prelude.{Option, option_map}
use Rattle.std.proofs.lemmas.Option.{same_Some}
use Rattle.wb_base.specs.Grammar.{GrammarView}
use Rattle.wb_certify.specs.Hosts.{IsCertifiedValue}
use Rattle.wb_certify.specs.CertifyRefusals.{IsAttributeMemory, IsAttributeRefusal, IsDeterminismOf, IsTypeMemory, IsValueRefusal, start_of}
use Rattle.wb_certify.specs.certify_refusal.CertifyRefusal.{CertifyRefusal}
use Rattle.wb_certify.specs.certify_refusal.CertifyRefusal.TheVariants as c
use Rattle.wb_certify.specs.Extensions.{IsCertifiedBeside, IsOneExtension}
use Rattle.wb_certify.specs.OneAnswer.{HasOneAnswer}
use Rattle.wb_certify.specs.Refusals.{IsBesideRefusal}
use Rattle.wb_complete.proofs.AnswerLemmas.{one_answer as one_completeness}
use Rattle.wb_complete.specs.Refusals.{CompleteOk, IsTrueCompletenessRefusal}
use Rattle.wb_certify.proofs.DeterminismRefusalLemmas.{excluded}
use Rattle.wb_flow.proofs.CheckLemmas.{flows_one_answer}
use Rattle.wb_flow.specs.Refusals.{FlowsOk, IsTrueFlowRefusal}
use Rattle.wb_flow.specs.declared.refusal.AttributeRefusal.{AttributeRefusal}
use Rattle.wb_flow.specs.declared.refusal.AttributeRefusal.TheVariants as a
use Rattle.wb_flow_theory.specs.Modular.{AreWellDefinedAttributes}
use Rattle.wb_marking_holes.specs.Holes.{with_holes_of}
use Rattle.wb_operations.specs.Operations.{OperationSignature}
use Rattle.wb_recheck_entries.specs.Texts.{IsExtensionHead, IsFault, IsHostHead}
use Rattle.wb_recheck_entries.specs.declared.fault.CertificateFault.{CertificateFault}
use Rattle.wb_recheck_entries.specs.declared.fault.CertificateFault.TheVariants as f
use Rattle.wb_syntax_resolved.specs.declared.resolved.ResolvedParts.{ResolvedParts}
use Rattle.wb_types.proofs.AnswerLemmas.{one_answer as one_kinds}
use Rattle.wb_types.specs.Refusals.{IsTrueRefusal}
use Rattle.wb_types.specs.Rules.{KindsOk}
use Rattle.wb_types.specs.declared.refusal.TypeRefusal.{TypeRefusal}
use Rattle.wb_types.specs.declared.refusal.TypeRefusal.TheVariants as t
use Rattle.wb_recheck.specs.declared.refusal.RecheckRefusal.TheVariants as k
use Rattle.wb_recheck.specs.Certificates.{IsCertificateOfExtension, IsCertificateOfHost, IsFaultOfExtension, IsFaultOfHost}
use Rattle.wb_recheck.specs.HostRefusals.{IsInTime}
use Rattle.wb_recheck.specs.OneAnswer.{HasOneExtensionAnswer, HasOneHostAnswer, IsFaultMemory}
use Rattle.wb_recheck.proofs.FaultLemmas.{HasNoFault, HasOneCertificate, fault_excluded}

-- nothing is no something
pub none_some : {X : Type 0} {x : X} → None ≡ Some x → ⊥
none_some e = cc

module _ (r : ResolvedParts) (operations : List OperationSignature) where
  pub kinds_exclude : KindsOk r.attributes operations → (refusal : TypeRefusal) → IsTrueRefusal r.attributes operations refusal
      → ¬ IsTypeMemory refusal → ⊥
  kinds_exclude ok (t.UnknownOperation name) fails other = ((one_kinds r.attributes operations).rules ok).unknown name fails
  kinds_exclude ok (t.WrongArity at) fails other = ((one_kinds r.attributes operations).rules ok).arity at fails
  kinds_exclude ok (t.TypeMismatch at) fails other = ((one_kinds r.attributes operations).rules ok).kind at fails
  kinds_exclude ok (t.NoMemory error) fails other = other tt

  module _ (start : Option ℕ) (is : AreWellDefinedAttributes r.attributes start None) where
    complete : CompleteOk r.attributes start None
    complete = record {
      start_inherits = is.start_inherits;
      forwards = tt;
      top = λ number production there. (is.productions number production there).top;
      below = λ number production there. (is.productions number production there).below;
    }

    flows : FlowsOk r.attributes
    flows = record {
      forward_needs = is.forward_needs;
      flow_types = record {
        attributes = λ number production there. (is.productions number production there).flow_types;
        forwards = λ number production there. (is.productions number production there).forward_flow_type;
      };
      acyclic = λ number production there. (is.productions number production there).acyclic;
    }

    complete_exclude : (refusal : AttributeRefusal) → IsTrueCompletenessRefusal r.attributes start None refusal
        → ¬ IsAttributeMemory refusal → ⊥
    complete_exclude (a.StartInherits x) fails other = ((one_completeness r.attributes start None).rules complete).start_inherits x fails
    complete_exclude (a.NoForward p) fails other = ((one_completeness r.attributes start None).rules complete).forwards p fails
    complete_exclude (a.NoEquation p x) fails other = ((one_completeness r.attributes start None).rules complete).top p x fails
    complete_exclude (a.NoInherited p v) fails other = ((one_completeness r.attributes start None).rules complete).below p v fails
    complete_exclude (a.NoMemory error) fails other = other tt
    complete_exclude (a.LacksForward m x i) fails other = absurd fails
    complete_exclude (a.Reads p x i) fails other = absurd fails
    complete_exclude (a.Cycle p vertices) fails other = absurd fails
    complete_exclude (a.ForwardReads p x i) fails other = absurd fails

    flow_exclude : (refusal : AttributeRefusal) → IsTrueFlowRefusal r.attributes refusal → ¬ IsAttributeMemory refusal → ⊥
    flow_exclude (a.LacksForward m x i) fails other = ((flows_one_answer r.attributes).rules flows).lacks m x i fails
    flow_exclude (a.Reads p x i) fails other = ((flows_one_answer r.attributes).rules flows).reads p x i fails
    flow_exclude (a.Cycle p vertices) fails other = ((flows_one_answer r.attributes).rules flows).cycle p vertices fails
    flow_exclude (a.NoMemory error) fails other = other tt
    flow_exclude (a.StartInherits x) fails other = absurd fails
    flow_exclude (a.NoForward p) fails other = absurd fails
    flow_exclude (a.NoEquation p x) fails other = absurd fails
    flow_exclude (a.NoInherited p v) fails other = absurd fails
    flow_exclude (a.ForwardReads p x i) fails other = absurd fails

    attributes_exclude : (refusal : AttributeRefusal) → IsAttributeRefusal r start refusal → ¬ IsAttributeMemory refusal → ⊥
    attributes_exclude refusal (inl fails) other = complete_exclude refusal fails other
    attributes_exclude refusal (inr (ok, fails)) other = flow_exclude refusal fails other

  -- a certified host has no refusal by a rule; and out of memory doesn't come in time
  rule_excluded : (Certified : Type 0) → IsCertifiedValue r operations → (refusal : CertifyRefusal)
      → IsValueRefusal r operations refusal → IsInTime Certified refusal → ⊥
  rule_excluded Certified is (c.Names refusal) reason time = reason
  rule_excluded Certified is (c.Types refusal) reason time = kinds_exclude is.kinds refusal reason.0 reason.1
  rule_excluded Certified is c.NoStart reason time = none_some (sym reason.none ∙ is.start)
  rule_excluded Certified is (c.Determinism refusal) reason time =
      reason.1 (excluded r is.grammar _ refusal
      (subst (λ (g : Option GrammarView). IsDeterminismOf r g refusal) is.start reason.0.reason) is.deterministic)
  rule_excluded Certified is (c.Attributes refusal) reason time =
      let start : start_of r ≡ Some is.grammar.start = ap (option_map (λ (g : GrammarView). g.start)) is.start in
      attributes_exclude (Some is.grammar.start) is.attributes refusal
      (subst (λ (s : Option ℕ). IsAttributeRefusal r s refusal) start reason.0.reason) reason.1
  rule_excluded Certified is (c.NoMemory error) reason time = time

  -- nor has an extension, where a law says so
  beside_excluded : (Certified : Type 0) (host : ResolvedParts) → HasOneAnswer host r operations → IsCertifiedBeside host r operations
      → (refusal : CertifyRefusal) → IsBesideRefusal host r operations refusal → IsInTime Certified refusal → ⊥
  beside_excluded Certified host one is (c.Names refusal) reason time = reason
  beside_excluded Certified host one is (c.Types refusal) reason time = one.certified is (c.Types refusal) reason
  beside_excluded Certified host one is c.NoStart reason time = reason
  beside_excluded Certified host one is (c.Determinism refusal) reason time = one.certified is (c.Determinism refusal) reason
  beside_excluded Certified host one is (c.Attributes refusal) reason time = one.certified is (c.Attributes refusal) reason
  beside_excluded Certified host one is (c.NoMemory error) reason time = time

module _ (no_fault : HasNoFault) (one : HasOneCertificate) (r : ResolvedParts) (text : List ℕ) where
  -- a certificate of a host has no fault
  pub host_excluded : IsCertificateOfHost r text → (fault : CertificateFault) → IsFaultOfHost r text fault → IsFaultMemory fault
  host_excluded is fault has =
      let same = same_Some has.grammar is.grammar (sym has.start ∙ is.start) in
      fault_excluded no_fault one text (IsHostHead r.host) (with_holes_of is.grammar r.extensible) is.is fault
      (subst (λ (g : GrammarView). IsFault text (IsHostHead r.host) (with_holes_of g r.extensible) fault) same has.first)

  pub first_same : (x y : List ℕ) → IsOneExtension r x → IsOneExtension r y → x ≡ y
  first_same x y one_x one_y = let both = sym one_x ∙ one_y in cc

  -- nor has one of an extension
  pub extension_excluded : IsCertificateOfExtension r text → (fault : CertificateFault) → IsFaultOfExtension r text fault
      → IsFaultMemory fault
  extension_excluded is fault has =
      let same = same_Some has.grammar is.grammar (sym has.start ∙ is.start) in
      let named = first_same has.name is.name has.one is.one in
      fault_excluded no_fault one text (IsExtensionHead is.name r.host) (with_holes_of is.grammar r.extensible) is.is fault
      (subst (λ (n : List ℕ). IsFault text (IsExtensionHead n r.host) (with_holes_of is.grammar r.extensible) fault) named
      (subst (λ (g : GrammarView). IsFault text (IsExtensionHead has.name r.host) (with_holes_of g r.extensible) fault) same has.first))

  pub one_host : (operations : List OperationSignature) → HasOneHostAnswer r operations text
  one_host operations certified certificate (k.Certify refusal) reason =
      rule_excluded r operations (IsCertificateOfHost r text) certified refusal reason.0 reason.1
  one_host operations certified certificate (k.Syntax place) reason = host_excluded certificate (f.Syntax place) reason.of_text
  one_host operations certified certificate (k.WrongLine line) reason = host_excluded certificate (f.WrongLine line) reason.of_text
  one_host operations certified certificate (k.Missing kernel) reason = host_excluded certificate (f.Missing kernel) reason.of_text
  one_host operations certified certificate (k.NoMemory error) reason = tt

  pub one_extension : (host : ResolvedParts) (operations : List OperationSignature) → HasOneAnswer host r operations
      → HasOneExtensionAnswer host r operations text
  one_extension host operations answer certified certificate (k.Certify refusal) reason =
      beside_excluded r operations (IsCertificateOfExtension r text) host answer certified refusal reason.0 reason.1
  one_extension host operations answer certified certificate (k.Syntax place) reason =
      extension_excluded certificate (f.Syntax place) reason.of_text
  one_extension host operations answer certified certificate (k.WrongLine line) reason =
      extension_excluded certificate (f.WrongLine line) reason.of_text
  one_extension host operations answer certified certificate (k.Missing kernel) reason =
      extension_excluded certificate (f.Missing kernel) reason.of_text
  one_extension host operations answer certified certificate (k.NoMemory error) reason = tt
