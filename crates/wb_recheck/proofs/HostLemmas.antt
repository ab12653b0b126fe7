-- What is known of a host after each test, and of the text.
use Rattle.std.proofs.Common.{◌≡◌, ◌⊎◌, inl, Result, Ok, Err, IfOk, IfErr, ℕ, List, Some, None, sym, subst}
use Rattle.std.specs.Prelude.{Option, IfSome, IsSome}
use Rattle.wb_base.specs.Grammar.{GrammarView}
use Rattle.wb_certify.proofs.CertifyRefusalLemmas.{deterministic, not_deterministic, parts_of}
use Rattle.wb_certify.specs.Hosts.{CertifiedView, IsCertifiedHost, IsCertifiedValue}
use Rattle.wb_certify.specs.CertifyRefusals.{IsDeterminismOf, IsDeterministic, IsPreferenceCycle}
use Rattle.wb_certify.specs.HostTests.{IsAttributesRefusal, IsGrammarRefusal}
use Rattle.wb_certify.specs.certify_refusal.CertifyRefusal.{CertifyRefusal}
use Rattle.wb_certify.specs.certify_refusal.CertifyRefusal.TheVariants as c
use Rattle.wb_certify.proofs.DeterministicHostLemmas.{fit_of}
use Rattle.wb_certify.specs.DeterministicHosts.{AreHostParts, IsDeterministicHost}
use Rattle.wb_certify.specs.Judged.{AreFactsOfHost, IsReadyToJudge}
use Rattle.wb_certify.specs.DeterminismRefusals.{IsBeforeConflict, IsHostRefusal, IsNoMemory}
use Rattle.wb_certify.specs.parts.HostParts.{HostParts}
use Rattle.wb_certify.specs.determinism_refusal.DeterminismRefusal.{DeterminismRefusal}
use Rattle.wb_certify.specs.determinism_refusal.DeterminismRefusal.TheVariants as d
use Rattle.wb_grammar.specs.Facts.{FactsView, AreFacts}
use Rattle.wb_items.specs.Kernels.{KernelsView}
use Rattle.wb_items.specs.Lookaheads.{LookaheadsView}
use Rattle.wb_items.specs.LookaheadSets.{AreLookaheads}
use Rattle.wb_marking_holes.specs.Holes.{with_holes_of}
use Rattle.wb_certify.specs.Resolving.{ResolvesHost}
use Rattle.wb_operations.specs.Operations.{OperationSignature}
use Rattle.wb_recheck_entries.specs.Texts.{HasCertificate, IsFault, IsHostHead}
use Rattle.wb_recheck_entries.specs.declared.fault.CertificateFault.{CertificateFault}
use Rattle.wb_recheck_entries.specs.declared.fault.CertificateFault.TheVariants as f
use Rattle.wb_syntax_resolved.specs.declared.resolved.ResolvedParts.{ResolvedParts}
use Rattle.wb_syntax_resolved.specs.Resolved.{IsResolved}
use Rattle.wb_syntax.specs.SpecText.{SpecView}
use Rattle.wb_types.specs.Rules.{KindsOk}
use Rattle.wb_recheck.specs.declared.refusal.RecheckRefusal.{RecheckRefusal}
use Rattle.wb_recheck.specs.declared.refusal.RecheckRefusal.TheVariants as k
use Rattle.wb_recheck.specs.Certificates.{IsCertificateOfHost, IsFaultOfHost}
use Rattle.wb_recheck.specs.HostRefusals.{IsHostRecheckRefusal, IsRuleRefusal, IsValueRecheckRefusal}
use Rattle.wb_recheck.specs.Inner.Handed.{IsHandedOn, IsReasonHandedOn, refusal_of}
use Rattle.wb_recheck.specs.Inner.Hosts.{IsFound, IsLaterRefusal}
use Rattle.wb_recheck.proofs.HandedLemmas.{found_in, memory_value}

module _ (r : ResolvedParts) (holes : GrammarView) (facts : FactsView) (there : IsSome r.grammar)
    (are : IfSome r.grammar (λ g. AreFactsOfHost r g holes facts)) where
  -- the facts are those of the grammar with holes
  pub facts_are : AreFacts holes facts
  facts_are = (found_in r.grammar (λ g. AreFactsOfHost r g holes facts) there are).2.facts_are

  module _ (text : List ℕ) (name : List ℕ) (named : name ≡ r.host) where
    -- a certificate of the grammar with holes is one of the host
    pub host_certificate : HasCertificate text (IsHostHead name) holes → IsCertificateOfHost r text
    host_certificate has =
        let (g, start, is) = found_in r.grammar (λ g. AreFactsOfHost r g holes facts) there are in record {
          grammar = g;
          start = start;
          is = subst (λ (n : List ℕ). HasCertificate text (IsHostHead n) (with_holes_of g r.extensible)) named
              (subst (HasCertificate text (IsHostHead name)) is.holes_are has);
        }

    -- and a fault of it is one of the host's
    pub host_fault : (fault : CertificateFault) → IsFault text (IsHostHead name) holes fault → IsFaultOfHost r text fault
    host_fault fault has =
        let (g, start, is) = found_in r.grammar (λ g. AreFactsOfHost r g holes facts) there are in record {
          grammar = g;
          start = start;
          fit = fit_of r g holes facts is.sound is.holes_are is.facts_are;
          first = subst (λ (n : List ℕ). IsFault text (IsHostHead n) (with_holes_of g r.extensible) fault) named
              (subst (λ (h : GrammarView). IsFault text (IsHostHead name) h fault) is.holes_are has);
        }

    pub certificate_told : {X E : Type 0} (result : Result X E) → IfOk result (λ x. HasCertificate text (IsHostHead name) holes)
        → IfOk result (λ x. IsCertificateOfHost r text)
    certificate_told (Ok x) has = host_certificate has
    certificate_told (Err e) has = tt

    pub fault_told : {X : Type 0} (result : Result X CertificateFault) → IfErr result (IsFault text (IsHostHead name) holes)
        → IfErr result (IsFaultOfHost r text)
    fault_told (Ok x) has = tt
    fault_told (Err fault) has = host_fault fault has

-- with kernels and lookaheads it is ready to be judged
pub ready : (r : ResolvedParts) (holes : GrammarView) (facts : FactsView) (kernels : KernelsView) (lookaheads : LookaheadsView)
    (o : Option GrammarView) → IfSome o (λ g. AreFactsOfHost r g holes facts) → kernels.grammar ≡ holes
    → AreLookaheads kernels lookaheads → IfSome o (λ g. IsReadyToJudge r g holes facts kernels lookaheads)
ready r holes facts kernels lookaheads None are of_holes lookaheads_are = tt
ready r holes facts kernels lookaheads (Some g) are of_holes lookaheads_are = record {
  sound = are.sound;
  holes_are = are.holes_are;
  facts_are = are.facts_are;
  of_holes = of_holes;
  lookaheads_are = lookaheads_are;
}

module _ (r : ResolvedParts) (text : List ℕ) where
  -- what is known of the text is so with any answer
  pub certificate_in : IsCertificateOfHost r text → {X E : Type 0} (result : Result X E) → IfOk result (λ x. IsCertificateOfHost r text)
  certificate_in is (Ok x) = is
  certificate_in is (Err e) = tt

  -- what is found of a host that is deterministic
  pub found : {E : Type 0} (result : Result HostParts E) → IsResolved r → IsSome r.grammar
      → IfOk result (λ parts. IfSome r.grammar (λ g. IsDeterministicHost r g × AreHostParts r g parts))
      → IfOk result (λ parts. IsCertificateOfHost r text) → IfOk result (IsFound r text)
  found (Ok parts) whole there is certificate = record {
    whole = whole;
    deterministic = deterministic r parts there is;
    of_grammar = parts_of r parts is;
    certificate = certificate;
  }
  found (Err e) whole there is certificate = tt

  -- no text is a certificate for this reason
  pub text_value : (fault : CertificateFault) → IsFaultOfHost r text fault → IsLaterRefusal r text (refusal_of fault)
  text_value (f.Syntax place) is operations kinds = record { kinds = kinds; of_text = is }
  text_value (f.WrongLine line) is operations kinds = record { kinds = kinds; of_text = is }
  text_value (f.Missing kernel) is operations kinds = record { kinds = kinds; of_text = is }
  text_value (f.NoMemory error) is operations kinds = tt

  -- a cycle of preferences comes before the conflict
  cycle_before : (x : DeterminismRefusal) → IsPreferenceCycle r x → IsBeforeConflict x
  cycle_before (d.Markers m) is = absurd is
  cycle_before (d.PreferenceCycle cycle) is = tt
  cycle_before (d.NotReduced reason) is = absurd is
  cycle_before (d.UnitCycle list) is = absurd is
  cycle_before (d.HiddenLeftRecursion list) is = absurd is
  cycle_before (d.Conflict prefix terminal first second) is = absurd is
  cycle_before (d.Clash prefix left right shown) is = absurd is
  cycle_before (d.Lookahead prefix item terminal) is = absurd is
  cycle_before (d.Envelope prefix fault) is = absurd is
  cycle_before (d.NoMemory error) is = absurd is

  -- a host without a start
  pub start_value : r.grammar ≡ None → (refusal : CertifyRefusal) (handed : RecheckRefusal) → IsHandedOn refusal handed
      → IsGrammarRefusal r refusal → IsLaterRefusal r text handed
  start_value without (c.Names refusal) handed is reason operations kinds = absurd reason
  start_value without (c.Types refusal) handed is reason operations kinds = absurd reason
  start_value without c.NoStart handed is reason operations kinds =
      subst (IsValueRecheckRefusal r operations text) (sym is)
      (record { kinds = kinds; acyclic = reason.0; none = reason.1 }, tt)
  start_value without (c.Determinism x) handed is reason operations kinds =
      subst (IsValueRecheckRefusal r operations text) (sym is) (
        (record { kinds = kinds; reason = reason.0 }, reason.1),
        inl (cycle_before x (subst (λ (o : Option GrammarView). IsDeterminismOf r o x) without reason.0)),
      )
  start_value without (c.Attributes refusal) handed is reason operations kinds = absurd reason
  start_value without (c.NoMemory error) handed is reason operations kinds = memory_value r operations text handed is

  -- a host with a start that isn't deterministic
  module _ (there : IsSome r.grammar) where
    never : (o : Option GrammarView) → IsSome o → IfSome o (λ g. ⊥) → ⊥
    never (Some g) some is = is
    never None some is = absurd (cc some)

    told : (x : DeterminismRefusal) (handed : RecheckRefusal) → ¬ IsNoMemory x → handed ≡ k.Certify (c.Determinism x)
        → IfSome r.grammar (λ g. IsHostRefusal r g x) → IsBeforeConflict x ⊎ IsCertificateOfHost r text → IsLaterRefusal r text handed
    told x handed other is reason time operations kinds =
        let both = not_deterministic r x there reason other in
        subst (IsValueRecheckRefusal r operations text) (sym is) ((record { kinds = kinds; reason = both.0 }, both.1), time)

    pub grammar_value : (x : DeterminismRefusal) (handed : RecheckRefusal) → IsReasonHandedOn x handed
        → IfSome r.grammar (λ g. IsHostRefusal r g x) → IsBeforeConflict x ⊎ IsCertificateOfHost r text → IsLaterRefusal r text handed
    grammar_value (d.Markers m) handed is reason time = absurd (never r.grammar there reason)
    grammar_value (d.PreferenceCycle cycle) handed is reason time = told (d.PreferenceCycle cycle) handed (λ n. n) is reason time
    grammar_value (d.NotReduced which) handed is reason time = told (d.NotReduced which) handed (λ n. n) is reason time
    grammar_value (d.UnitCycle list) handed is reason time = told (d.UnitCycle list) handed (λ n. n) is reason time
    grammar_value (d.HiddenLeftRecursion list) handed is reason time =
        told (d.HiddenLeftRecursion list) handed (λ n. n) is reason time
    grammar_value (d.Conflict prefix terminal first second) handed is reason time =
        told (d.Conflict prefix terminal first second) handed (λ n. n) is reason time
    grammar_value (d.Clash prefix left right shown) handed is reason time =
        told (d.Clash prefix left right shown) handed (λ n. n) is reason time
    grammar_value (d.Lookahead prefix item terminal) handed is reason time =
        told (d.Lookahead prefix item terminal) handed (λ n. n) is reason time
    grammar_value (d.Envelope prefix fault) handed is reason time = told (d.Envelope prefix fault) handed (λ n. n) is reason time
    grammar_value (d.NoMemory error) handed is reason time = λ operations kinds. memory_value r operations text handed is

  -- attributes that aren't well defined
  pub attributes_value : (operations : List OperationSignature) → KindsOk r.attributes operations → IsDeterministic r
      → IsCertificateOfHost r text → (refusal : CertifyRefusal) (handed : RecheckRefusal) → IsHandedOn refusal handed
      → IsAttributesRefusal r refusal → IsValueRecheckRefusal r operations text handed
  attributes_value operations kinds is certificate (c.Names refusal) handed on reason = absurd reason
  attributes_value operations kinds is certificate (c.Types refusal) handed on reason = absurd reason
  attributes_value operations kinds is certificate c.NoStart handed on reason = absurd reason
  attributes_value operations kinds is certificate (c.Determinism refusal) handed on reason = absurd reason
  attributes_value operations kinds is certificate (c.Attributes refusal) handed on reason =
      subst (IsValueRecheckRefusal r operations text) (sym on)
      ((record { kinds = kinds; deterministic = is; reason = reason.0 }, reason.1), certificate)
  attributes_value operations kinds is certificate (c.NoMemory error) handed on reason = memory_value r operations text handed on

module _ (spec : SpecView) (r : ResolvedParts) (operations : List OperationSignature) (text : List ℕ) (names : ResolvesHost spec r) where
  -- the specification is certified where its value is
  pub certified_host : {X : Type 0} (result : Result X RecheckRefusal) → IfOk result (λ host. IsCertifiedValue r operations)
      → IfOk result (λ host. IsCertifiedHost spec operations)
  certified_host (Ok host) is = record { resolved = r; names = names; certified = is }
  certified_host (Err refusal) is = tt

  -- the text is a certificate of the value that is kept
  pub certificate_kept : (result : Result CertifiedView RecheckRefusal) → IfOk result (λ (host : CertifiedView). host.resolved ≡ r)
      → IfOk result (λ (host : CertifiedView). IsCertificateOfHost r text)
      → IfOk result (λ (host : CertifiedView). IsCertificateOfHost host.resolved text)
  certificate_kept (Ok host) same is = subst (λ (q : ResolvedParts). IsCertificateOfHost q text) (sym same) is
  certificate_kept (Err refusal) same is = tt

  -- a refusal of its value is one of the specification
  of_rule : (x : CertifyRefusal) → IsValueRecheckRefusal r operations text (k.Certify x) → IsRuleRefusal spec operations text x
  of_rule (c.Names refusal) reason = absurd reason.0
  of_rule (c.Types refusal) reason = record { resolved = r; names = names; reason = reason }
  of_rule c.NoStart reason = record { resolved = r; names = names; reason = reason }
  of_rule (c.Determinism refusal) reason = record { resolved = r; names = names; reason = reason }
  of_rule (c.Attributes refusal) reason = record { resolved = r; names = names; reason = reason }
  of_rule (c.NoMemory error) reason = record { resolved = r; names = names; reason = reason }

  of_value : (refusal : RecheckRefusal) → IsValueRecheckRefusal r operations text refusal
      → IsHostRecheckRefusal spec operations text refusal
  of_value (k.Certify x) reason = of_rule x reason
  of_value (k.Syntax place) reason = record { resolved = r; names = names; reason = reason }
  of_value (k.WrongLine line) reason = record { resolved = r; names = names; reason = reason }
  of_value (k.Missing kernel) reason = record { resolved = r; names = names; reason = reason }
  of_value (k.NoMemory error) reason = tt

  pub host_refused : {X : Type 0} (result : Result X RecheckRefusal) → IfErr result (IsValueRecheckRefusal r operations text)
      → IfErr result (IsHostRecheckRefusal spec operations text)
  host_refused (Ok host) reason = tt
  host_refused (Err refusal) reason = of_value refusal reason
