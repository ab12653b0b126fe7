-- Contents are one certified host at most, and a refusal of no host is true of one.
use Rattle.std.proofs.Common.{◌≡◌, ◌≤◌, inl, inr, [], ℕ, List, Some, None, length, refl, sym, subst, ap, ◌∙◌, arith}
use Rattle.std.specs.Prelude.{Option, option_map}
use Rattle.wb_lemmas.proofs.Elements.{all_from_contained, all_contained}
use Rattle.wb_flow_theory.specs.Modular.{AreWellDefinedAttributes}
use Rattle.wb_base.specs.Grammar.{GrammarView}
use Rattle.wb_recheck.specs.Hosts.{IsCertifiedValue}
use Rattle.wb_recheck.specs.CertifyRefusals.{IsValueRefusal, IsAttributeRefusal, IsDeterminismOf, start_of, IsTypeMemory, IsAttributeMemory}
use Rattle.wb_recheck.specs.certify_refusal.CertifyRefusal.{CertifyRefusal}
use Rattle.wb_recheck.specs.certify_refusal.CertifyRefusal.TheVariants as c
use Rattle.wb_complete.proofs.AnswerLemmas.{one_answer as one_completeness}
use Rattle.wb_complete.specs.Refusals.{CompleteOk, IsTrueCompletenessRefusal}
use Rattle.wb_recheck.proofs.DeterminismRefusalLemmas.{excluded}
use Rattle.wb_flow.proofs.CheckLemmas.{flows_one_answer}
use Rattle.wb_flow.specs.Refusals.{FlowsOk, IsTrueFlowRefusal}
use Rattle.wb_flow.specs.declared.refusal.AttributeRefusal.{AttributeRefusal}
use Rattle.wb_flow.specs.declared.refusal.AttributeRefusal.TheVariants as a
use Rattle.wb_recheck.specs.Resolving.{ResolvesHost, IsHostNameRefusal, host_file}
use Rattle.wb_names_theory.specs.declared.refusal.NameRefusal.{NameRefusal}
use Rattle.wb_names_theory.specs.declared.refusal.NameRefusal.TheVariants as n
use Rattle.wb_names_numbers_theory.proofs.OneValue.{only_value}
use Rattle.wb_names_numbers_theory.specs.OneValue.{SeesAll}
use Rattle.wb_operations.specs.Operations.{OperationSignature}
use Rattle.wb_reader.proofs.Excluding.{none_refused}
use Rattle.wb_reader.proofs.OneText.{one_text}
use Rattle.wb_reader.specs.OneAnswer.{IsNoMemory}
use Rattle.wb_reader.specs.Refusals.{IsAcceptedText}
use Rattle.wb_reader.specs.declared.refusal.SpecRefusal.{SpecRefusal}
use Rattle.wb_reader.specs.declared.refusal.SpecRefusal.TheVariants as t
use Rattle.wb_report.specs.declared.refusal.Refusal.{Refusal}
use Rattle.wb_syntax_resolved.specs.declared.production.Production.{Production}
use Rattle.wb_syntax_resolved.specs.declared.resolved.ResolvedParts.{ResolvedParts}
use Rattle.wb_syntax_resolved.specs.Named.{IsNamedProduction}
use Rattle.wb_syntax_resolved.specs.Owners.{Sees}
use Rattle.wb_syntax_resolved.specs.Resolved.{IsResolved}
use Rattle.wb_certify_shown.specs.Shows.{written_reason, name_reason, of_spec, refusal_shown}
use Rattle.wb_syntax.specs.SpecText.{SpecView}
use Rattle.wb_syntax.specs.declared.header.Header.TheVariants as h
use Rattle.wb_types.proofs.AnswerLemmas.{one_answer as one_kinds}
use Rattle.wb_types.specs.Refusals.{IsTrueRefusal}
use Rattle.wb_types.specs.Rules.{KindsOk}
use Rattle.wb_types.specs.declared.refusal.TypeRefusal.{TypeRefusal}
use Rattle.wb_types.specs.declared.refusal.TypeRefusal.TheVariants as k
use Rattle.wb_recheck.specs.WellDefinedHosts.{HasWellDefinedAttributes, IsWellDefinedRefusal}
use Rattle.wb_certify_files.specs.HostContents.{StandsFor, IsHostText, IsBadText, HasBadNames, IsOfKinds, IsRefusedValue}
use Rattle.wb_certify_files.specs.OneHostAnswer.{HaveOneHostAnswer, HaveOneWellDefined}
use Rattle.wb_certify_files.specs.WellDefined.{IsWellDefinedText, IsIllDefined}

-- nothing is no something, and a host no extension
none_some : {X : Type 0} {x : X} → None ≡ Some x → ⊥
none_some e = cc

no_extension : (host : List ℕ) → h.Host ≡ h.Extension host → ⊥
no_extension host e = cc

-- contents are one specification at most
one_spec : (contents : List ℕ) (x y : SpecView) → IsAcceptedText contents x → IsAcceptedText contents y → x ≡ y
one_spec contents x y first second = one_text contents x y first.1 second.1

-- each production of a host is its own
sees_all : (spec : SpecView) (r : ResolvedParts) → IsResolved r → r.attributes.extensions ≡ [] → SeesAll (host_file spec) r
sees_all spec r is alone =
    all_from_contained (λ (p : Production). Sees 0 p.owner) r.attributes.productions (λ p has.
    let named = all_contained (IsNamedProduction r.attributes) r.attributes.productions p is.attributes.named.productions has in
    let few : p.owner ≤ 0 = subst (λ (z : List (List ℕ)). p.owner ≤ length z) alone named.owner in
    inl (omega (arith, few)))

-- they stand for one value at most
pub one_value : (contents : List ℕ) (r s : ResolvedParts) → StandsFor contents r → StandsFor contents s → r ≡ s
one_value contents r s first second =
    let same = one_spec contents second.spec first.spec second.accepted first.accepted in
    let names : ResolvesHost first.spec s = subst (λ (z : SpecView). ResolvesHost z s) same second.names in
    only_value (host_file first.spec) r first.resolved (sees_all first.spec r first.resolved first.names.value.extensions)
    first.names.value s names.value

-- contents that are a specification aren't refused as text
not_memory : (refusal : SpecRefusal) (shown : Refusal) → of_spec (written_reason refusal) ≡ Some shown → IsNoMemory refusal → ⊥
not_memory t.TooLong shown is memory = absurd memory
not_memory t.WrongFormat shown is memory = absurd memory
not_memory (t.Syntax at) shown is memory = absurd memory
not_memory (t.BadRegex at) shown is memory = absurd memory
not_memory (t.MatchesEmpty name) shown is memory = absurd memory
not_memory (t.NoMemory error) shown is memory = none_some is

pub no_bad_text : (contents : List ℕ) (shown : Refusal) (spec : SpecView) → IsAcceptedText contents spec → IsBadText contents shown → ⊥
no_bad_text contents shown spec accepted bad =
    not_memory bad.refusal shown bad.shows (none_refused contents spec bad.refusal accepted bad.cause)

-- contents whose names are right aren't refused for names
names_exclude : (spec : SpecView) (r : ResolvedParts) (shown : Refusal) → ResolvesHost spec r → (refusal : NameRefusal)
    → IsHostNameRefusal spec refusal → of_spec (name_reason refusal) ≡ Some shown → ⊥
names_exclude spec r shown is (n.NoMemory error) cause shows = none_some shows
names_exclude spec r shown is (n.WrongHost name) cause shows = none_some shows
names_exclude spec r shown is (n.Unknown name) (inl (ext, e)) shows =
    no_extension ext.0 (sym is.header ∙ ext.1)
names_exclude spec r shown is (n.Unknown name) (inr (e, fails)) shows = is.names.declared name fails.fails
names_exclude spec r shown is (n.Duplicate name) (inl (ext, e)) shows =
    no_extension ext.0 (sym is.header ∙ ext.1)
names_exclude spec r shown is (n.Duplicate name) (inr (e, fails)) shows = is.names.once name fails
names_exclude spec r shown is (n.WrongKind name) (inl (ext, e)) shows =
    no_extension ext.0 (sym is.header ∙ ext.1)
names_exclude spec r shown is (n.WrongKind name) (inr (e, fails)) shows = is.names.kinds name fails.fails
names_exclude spec r shown is (n.Orphan name) (inl (ext, e)) shows =
    no_extension ext.0 (sym is.header ∙ ext.1)
names_exclude spec r shown is (n.Orphan name) (inr (e, fails)) shows = fails.extension refl

pub no_bad_names : (contents : List ℕ) (shown : Refusal) (r : ResolvedParts) → StandsFor contents r → HasBadNames contents shown → ⊥
no_bad_names contents shown r stands bad =
    let same = one_spec contents bad.spec stands.spec bad.accepted stands.accepted in
    names_exclude stands.spec r shown stands.names bad.refusal
    (subst (λ (z : SpecView). IsHostNameRefusal z bad.refusal) same bad.cause) bad.shows

module _ (r : ResolvedParts) (operations : List OperationSignature) where
  pub kinds_exclude : KindsOk r.attributes operations → (refusal : TypeRefusal) → IsTrueRefusal r.attributes operations refusal
      → ¬ IsTypeMemory refusal → ⊥
  kinds_exclude ok (k.UnknownOperation name) fails other = ((one_kinds r.attributes operations).rules ok).unknown name fails
  kinds_exclude ok (k.WrongArity at) fails other = ((one_kinds r.attributes operations).rules ok).arity at fails
  kinds_exclude ok (k.TypeMismatch at) fails other = ((one_kinds r.attributes operations).rules ok).kind at fails
  kinds_exclude ok (k.NoMemory error) fails other = other tt

  complete : (start : Option ℕ) → AreWellDefinedAttributes r.attributes start None → CompleteOk r.attributes start None
  complete start is = record {
    start_inherits = is.start_inherits;
    forwards = tt;
    top = λ number production there. (is.productions number production there).top;
    below = λ number production there. (is.productions number production there).below;
  }

  flows : (start : Option ℕ) → AreWellDefinedAttributes r.attributes start None → FlowsOk r.attributes
  flows start is = record {
    forward_needs = is.forward_needs;
    flow_types = record {
      attributes = λ number production there. (is.productions number production there).flow_types;
      forwards = λ number production there. (is.productions number production there).forward_flow_type;
    };
    acyclic = λ number production there. (is.productions number production there).acyclic;
  }

  complete_exclude : (start : Option ℕ) → CompleteOk r.attributes start None → (refusal : AttributeRefusal)
      → IsTrueCompletenessRefusal r.attributes start None refusal → ¬ IsAttributeMemory refusal → ⊥
  complete_exclude start ok (a.StartInherits x) fails other = ((one_completeness r.attributes start None).rules ok).start_inherits x fails
  complete_exclude start ok (a.NoForward p) fails other = ((one_completeness r.attributes start None).rules ok).forwards p fails
  complete_exclude start ok (a.NoEquation p x) fails other = ((one_completeness r.attributes start None).rules ok).top p x fails
  complete_exclude start ok (a.NoInherited p v) fails other = ((one_completeness r.attributes start None).rules ok).below p v fails
  complete_exclude start ok (a.NoMemory error) fails other = other tt
  complete_exclude start ok (a.LacksForward m x i) fails other = absurd fails
  complete_exclude start ok (a.Reads p x i) fails other = absurd fails
  complete_exclude start ok (a.Cycle p vertices) fails other = absurd fails
  complete_exclude start ok (a.ForwardReads p x i) fails other = absurd fails

  flow_exclude : FlowsOk r.attributes → (refusal : AttributeRefusal) → IsTrueFlowRefusal r.attributes refusal
      → ¬ IsAttributeMemory refusal → ⊥
  flow_exclude ok (a.LacksForward m x i) fails other = ((flows_one_answer r.attributes).rules ok).lacks m x i fails
  flow_exclude ok (a.Reads p x i) fails other = ((flows_one_answer r.attributes).rules ok).reads p x i fails
  flow_exclude ok (a.Cycle p vertices) fails other = ((flows_one_answer r.attributes).rules ok).cycle p vertices fails
  flow_exclude ok (a.NoMemory error) fails other = other tt
  flow_exclude ok (a.StartInherits x) fails other = absurd fails
  flow_exclude ok (a.NoForward p) fails other = absurd fails
  flow_exclude ok (a.NoEquation p x) fails other = absurd fails
  flow_exclude ok (a.NoInherited p v) fails other = absurd fails
  flow_exclude ok (a.ForwardReads p x i) fails other = absurd fails

  attributes_exclude : (start : Option ℕ) → AreWellDefinedAttributes r.attributes start None → (refusal : AttributeRefusal)
      → IsAttributeRefusal r start refusal → ¬ IsAttributeMemory refusal → ⊥
  attributes_exclude start is refusal (inl fails) other = complete_exclude start (complete start is) refusal fails other
  attributes_exclude start is refusal (inr (ok, fails)) other = flow_exclude (flows start is) refusal fails other

  -- a certified value isn't refused
  value_excludes : IsCertifiedValue r operations → (shown : Refusal) (refusal : CertifyRefusal) → IsValueRefusal r operations refusal
      → refusal_shown r refusal ≡ Some shown → ⊥
  value_excludes is shown (c.Names refusal) reason shows = absurd reason
  value_excludes is shown (c.Types refusal) reason shows = kinds_exclude is.kinds refusal reason.0 reason.1
  value_excludes is shown c.NoStart reason shows =
      none_some (sym reason.none ∙ is.start)
  value_excludes is shown (c.Determinism refusal) reason shows =
      reason.1 (excluded r is.grammar _ refusal
      (subst (λ (g : Option GrammarView). IsDeterminismOf r g refusal) is.start reason.0.reason) is.deterministic)
  value_excludes is shown (c.Attributes refusal) reason shows =
      let start : start_of r ≡ Some is.grammar.start = ap (option_map (λ (g : GrammarView). g.start)) is.start in
      attributes_exclude (Some is.grammar.start) is.attributes refusal
      (subst (λ (s : Option ℕ). IsAttributeRefusal r s refusal) start reason.0.reason) reason.1
  value_excludes is shown (c.NoMemory error) reason shows = none_some shows

  -- where a rule that comes after those of kinds fails, kinds are right
  kinds_before : (shown : Refusal) (refusal : CertifyRefusal) → IsValueRefusal r operations refusal → ¬ IsOfKinds refusal
      → refusal_shown r refusal ≡ Some shown → KindsOk r.attributes operations
  kinds_before shown (c.Names refusal) reason other shows = absurd reason
  kinds_before shown (c.Types refusal) reason other shows = absurd (other tt)
  kinds_before shown c.NoStart reason other shows = reason.kinds
  kinds_before shown (c.Determinism refusal) reason other shows = reason.0.kinds
  kinds_before shown (c.Attributes refusal) reason other shows = reason.0.kinds
  kinds_before shown (c.NoMemory error) reason other shows = absurd (none_some shows)

  -- a refusal for kinds is false where they are right
  pub kinds_refuse : KindsOk r.attributes operations → (refusal : CertifyRefusal) → IsValueRefusal r operations refusal
      → IsOfKinds refusal → ⊥
  kinds_refuse ok (c.Names refusal) reason of_kinds = absurd of_kinds
  kinds_refuse ok (c.Types refusal) reason of_kinds = kinds_exclude ok refusal reason.0 reason.1
  kinds_refuse ok c.NoStart reason of_kinds = absurd of_kinds
  kinds_refuse ok (c.Determinism refusal) reason of_kinds = absurd of_kinds
  kinds_refuse ok (c.Attributes refusal) reason of_kinds = absurd of_kinds
  kinds_refuse ok (c.NoMemory error) reason of_kinds = absurd of_kinds

module _ (operations : List OperationSignature) (contents : List ℕ) where
  no_refused : (r : ResolvedParts) (shown : Refusal) (Meets : CertifyRefusal → Type 0) → IsHostText operations contents r
      → IsRefusedValue operations contents Meets shown → ⊥
  no_refused r shown Meets is refused =
      let same = one_value contents r refused.value is.stands refused.stands in
      value_excludes refused.value operations (subst (λ (z : ResolvedParts). IsCertifiedValue z operations) same is.certified) shown
      refused.refusal refused.reason refused.shows

  -- contents have one answer
  pub one_answer : HaveOneHostAnswer operations contents
  one_answer = record {
    one = λ r s first second. one_value contents r s first.stands second.stands;
    no_specification = λ r shown is refused. elim refused [
      | inl bad ↦ no_bad_text contents shown is.stands.spec is.stands.accepted bad
      | inr (inl bad) ↦ no_bad_names contents shown r is.stands bad
      | inr (inr value) ↦ no_refused r shown IsOfKinds is value
    ];
    no_certification = λ r shown is refused. no_refused r shown (λ refusal. ¬ IsOfKinds refusal) is refused;
    one_sort = λ shown other first second. elim first [
      | inl bad ↦ no_bad_text contents shown second.stands.spec second.stands.accepted bad
      | inr (inl bad) ↦ no_bad_names contents shown second.value second.stands bad
      | inr (inr value) ↦
          let same = one_value contents second.value value.value second.stands value.stands in
          let ok = kinds_before second.value operations other second.refusal second.reason second.meets second.shows in
          kinds_refuse value.value operations (subst (λ (z : ResolvedParts). KindsOk z.attributes operations) same ok) value.refusal
          value.reason value.meets
    ];
  }

module _ (r : ResolvedParts) (operations : List OperationSignature) where
  -- a value whose attributes are well defined isn't refused
  well_defined_excludes : HasWellDefinedAttributes r operations → (shown : Refusal) (refusal : CertifyRefusal)
      → IsWellDefinedRefusal r operations refusal → refusal_shown r refusal ≡ Some shown → ⊥
  well_defined_excludes is shown (c.Names refusal) reason shows = absurd reason
  well_defined_excludes is shown (c.Types refusal) reason shows = kinds_exclude r operations is.kinds refusal reason.0 reason.1
  well_defined_excludes is shown c.NoStart reason shows = absurd reason
  well_defined_excludes is shown (c.Determinism refusal) reason shows = absurd reason
  well_defined_excludes is shown (c.Attributes refusal) reason shows =
      attributes_exclude r operations (start_of r) is.attributes refusal reason.0.reason reason.1
  well_defined_excludes is shown (c.NoMemory error) reason shows = none_some shows

  -- a refusal for kinds is false where another rule fails
  kinds_or_other : (shown : Refusal) (first second : CertifyRefusal) → IsWellDefinedRefusal r operations first → IsOfKinds first
      → IsWellDefinedRefusal r operations second → ¬ IsOfKinds second → refusal_shown r second ≡ Some shown → ⊥
  kinds_or_other shown (c.Types refusal) (c.Attributes other) first of_kinds second not_of_kinds shows =
      kinds_exclude r operations second.0.kinds refusal first.0 first.1
  kinds_or_other shown (c.Types refusal) (c.Types other) first of_kinds second not_of_kinds shows = not_of_kinds tt
  kinds_or_other shown (c.Types refusal) (c.Names other) first of_kinds second not_of_kinds shows = absurd second
  kinds_or_other shown (c.Types refusal) c.NoStart first of_kinds second not_of_kinds shows = absurd second
  kinds_or_other shown (c.Types refusal) (c.Determinism other) first of_kinds second not_of_kinds shows = absurd second
  kinds_or_other shown (c.Types refusal) (c.NoMemory error) first of_kinds second not_of_kinds shows = none_some shows
  kinds_or_other shown (c.Names refusal) second first of_kinds reason not_of_kinds shows = absurd of_kinds
  kinds_or_other shown c.NoStart second first of_kinds reason not_of_kinds shows = absurd of_kinds
  kinds_or_other shown (c.Determinism refusal) second first of_kinds reason not_of_kinds shows = absurd of_kinds
  kinds_or_other shown (c.Attributes refusal) second first of_kinds reason not_of_kinds shows = absurd of_kinds
  kinds_or_other shown (c.NoMemory error) second first of_kinds reason not_of_kinds shows = absurd of_kinds

module _ (operations : List OperationSignature) (contents : List ℕ) where
  no_ill_defined : (r : ResolvedParts) (shown : Refusal) (Meets : CertifyRefusal → Type 0) → IsWellDefinedText operations contents r
      → IsIllDefined operations contents Meets shown → ⊥
  no_ill_defined r shown Meets is refused =
      let same = one_value contents r refused.value is.stands refused.stands in
      well_defined_excludes refused.value operations
      (subst (λ (z : ResolvedParts). HasWellDefinedAttributes z operations) same is.well_defined) shown refused.refusal refused.reason
      refused.shows

  -- contents have one answer
  pub one_well_defined : HaveOneWellDefined operations contents
  one_well_defined = record {
    one = λ r s first second. one_value contents r s first.stands second.stands;
    no_specification = λ r shown is refused. elim refused [
      | inl bad ↦ no_bad_text contents shown is.stands.spec is.stands.accepted bad
      | inr (inl bad) ↦ no_bad_names contents shown r is.stands bad
      | inr (inr value) ↦ no_ill_defined r shown IsOfKinds is value
    ];
    no_certification = λ r shown is refused. no_ill_defined r shown (λ refusal. ¬ IsOfKinds refusal) is refused;
    one_sort = λ shown other first second. elim first [
      | inl bad ↦ no_bad_text contents shown second.stands.spec second.stands.accepted bad
      | inr (inl bad) ↦ no_bad_names contents shown second.value second.stands bad
      | inr (inr value) ↦
          let same = one_value contents value.value second.value value.stands second.stands in
          let first_reason = subst (λ (z : ResolvedParts). IsWellDefinedRefusal z operations value.refusal) same value.reason in
          kinds_or_other second.value operations other value.refusal second.refusal first_reason value.meets second.reason second.meets
          second.shows
    ];
  }
