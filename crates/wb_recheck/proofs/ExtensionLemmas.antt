-- What is known of a host with an extension after each test, and of the text.
use Rattle.std.proofs.Common.{◌≡◌, ◌⊎◌, inl, inr, Result, Ok, Err, IfOk, IfErr, ℕ, List, [], ◌∷◌, Some, length, slice_get, ap, sym, subst}
use Rattle.std.proofs.Common.{◌∙◌}
use Rattle.std.proofs.lemmas.Option.{IfSome_then}
use Rattle.std.specs.Prelude.{IfSome, IsSome}
use Rattle.wb_base.specs.Grammar.{GrammarView}
use Rattle.wb_certify.specs.Hosts.{CertifiedView, IsCertified, IsCertifiedValue}
use Rattle.wb_certify.specs.certify_refusal.CertifyRefusal.{CertifyRefusal}
use Rattle.wb_certify.specs.certify_refusal.CertifyRefusal.TheVariants as c
use Rattle.wb_certify.proofs.DeterminismLemmas.{whole_reason}
use Rattle.wb_certify.proofs.ValueLemmas.{attributes_refused, made_beside, parts_beside, start_is}
use Rattle.wb_certify.specs.Extensions.{IsCertifiedBeside, IsCertifiedExtension, IsOneExtension}
use Rattle.wb_certify.specs.Inner.Tests.{IsReasonBeside}
use Rattle.wb_certify.specs.Beside.{AreClearBeside, IsFound}
use Rattle.wb_certify.specs.Kept.{Extends}
use Rattle.wb_certify.specs.Refusals.{IsReason}
use Rattle.wb_certify.specs.Tests.{IsAttributesReason, IsMarkReason, KeepMarkers}
use Rattle.wb_certify.proofs.DeterministicHostLemmas.{fit_of}
use Rattle.wb_certify.specs.Judged.{AreFactsOfHost}
use Rattle.wb_certify.specs.DeterminismRefusals.{IsBeforeConflict, IsHostRefusal, IsNoMemory}
use Rattle.wb_certify.specs.parts.HostParts.{HostParts}
use Rattle.wb_certify.specs.determinism_refusal.DeterminismRefusal.{DeterminismRefusal}
use Rattle.wb_certify.specs.determinism_refusal.DeterminismRefusal.TheVariants as d
use Rattle.wb_certify.specs.ExtensionDeterminism.{IsExtensionRefusal}
use Rattle.wb_grammar.specs.Facts.{FactsView}
use Rattle.wb_marking_holes.specs.Holes.{with_holes_of}
use Rattle.wb_certify.specs.Resolving.{ResolvesExtension}
use Rattle.wb_operations.specs.Operations.{OperationSignature}
use Rattle.wb_recheck_entries.specs.Texts.{HasCertificate, IsExtensionHead, IsFault}
use Rattle.wb_recheck_entries.specs.declared.fault.CertificateFault.{CertificateFault}
use Rattle.wb_recheck_entries.specs.declared.fault.CertificateFault.TheVariants as f
use Rattle.wb_syntax_resolved.specs.declared.resolved.ResolvedParts.{ResolvedParts}
use Rattle.wb_syntax.specs.SpecText.{SpecView}
use Rattle.wb_types.specs.Rules.{KindsOk}
use Rattle.wb_recheck.specs.declared.refusal.RecheckRefusal.{RecheckRefusal}
use Rattle.wb_recheck.specs.declared.refusal.RecheckRefusal.TheVariants as k
use Rattle.wb_recheck.specs.Certificates.{HasExtensionCertificate, IsCertificateOfExtension, IsFaultOfExtension}
use Rattle.wb_recheck.specs.ExtensionRefusals.{IsBesideRecheckRefusal, IsExtensionRecheckRefusal, IsRuleRefusal}
use Rattle.wb_recheck.specs.Inner.Extensions.{IsBeside, IsFaultBeside, IsFoundBeside, IsLaterBeside}
use Rattle.wb_recheck.specs.Inner.Handed.{IsHandedOn, IsReasonHandedOn, refusal_of}
use Rattle.wb_recheck.proofs.HandedLemmas.{found_in, memory_beside, some_in}

-- a list of one element, which is this
pub one_of : {X : Type 0} (xs : List X) (x : X) → length xs ≡ 1 → slice_get xs 0 ≡ Some x → xs ≡ x ∷ []
one_of [] x long at = cc
one_of (y ∷ []) x long at = let same : y ≡ x = cc in ap (λ z. z ∷ []) same
one_of (y ∷ z ∷ xs) x long at = cc

module _ (r : ResolvedParts) (holes : GrammarView) (facts : FactsView) (there : IsSome r.grammar)
    (are : IfSome r.grammar (λ g. AreFactsOfHost r g holes facts)) (text name host : List ℕ) (one : IsOneExtension r name)
    (named : host ≡ r.host) where
  -- a certificate of the grammar with holes is one of the extension
  extension_certificate : HasCertificate text (IsExtensionHead name host) holes → IsCertificateOfExtension r text
  extension_certificate has =
      let (g, start, is) = found_in r.grammar (λ g. AreFactsOfHost r g holes facts) there are in record {
        name = name;
        one = one;
        grammar = g;
        start = start;
        is = subst (λ (n : List ℕ). HasCertificate text (IsExtensionHead name n) (with_holes_of g r.extensible)) named
            (subst (HasCertificate text (IsExtensionHead name host)) is.holes_are has);
      }

  -- and a fault of it is one of the extension's
  extension_fault : KeepMarkers r → (fault : CertificateFault) → IsFault text (IsExtensionHead name host) holes fault
      → IsFaultOfExtension r text fault
  extension_fault keeps fault has =
      let (g, start, is) = found_in r.grammar (λ g. AreFactsOfHost r g holes facts) there are in record {
        name = name;
        one = one;
        grammar = g;
        start = start;
        markers = keeps g start;
        fit = fit_of r g holes facts is.sound is.holes_are is.facts_are;
        first = subst (λ (n : List ℕ). IsFault text (IsExtensionHead name n) (with_holes_of g r.extensible) fault) named
            (subst (λ (h : GrammarView). IsFault text (IsExtensionHead name host) h fault) is.holes_are has);
      }

  pub certificate_told : {X E : Type 0} (result : Result X E) → IfOk result (λ x. HasCertificate text (IsExtensionHead name host) holes)
      → IfOk result (λ x. IsCertificateOfExtension r text)
  certificate_told (Ok x) has = extension_certificate has
  certificate_told (Err e) has = tt

  pub fault_told : {X : Type 0} (result : Result X CertificateFault) → KeepMarkers r
      → IfErr result (IsFault text (IsExtensionHead name host) holes) → IfErr result (IsFaultOfExtension r text)
  fault_told (Ok x) keeps has = tt
  fault_told (Err fault) keeps has = extension_fault keeps fault has

-- what is known of the text is so with any answer
pub certificate_in : (r : ResolvedParts) (text : List ℕ) → IsCertificateOfExtension r text → {X E : Type 0} (result : Result X E)
    → IfOk result (λ x. IsCertificateOfExtension r text)
certificate_in r text is (Ok x) = is
certificate_in r text is (Err e) = tt

module _ (r : ResolvedParts) (text : List ℕ) (holes : GrammarView) where
  -- no text is a certificate for this reason
  pub text_beside : (fault : CertificateFault) → IsFaultOfExtension r text fault → IsFaultBeside r holes text (refusal_of fault)
  text_beside (f.Syntax place) is host h host_start same operations kinds = record { kinds = kinds; of_text = is }
  text_beside (f.WrongLine line) is host h host_start same operations kinds = record { kinds = kinds; of_text = is }
  text_beside (f.Missing kernel) is host h host_start same operations kinds = record { kinds = kinds; of_text = is }
  text_beside (f.NoMemory error) is host h host_start same operations kinds = tt

  -- a reason that isn't plainly out of memory isn't out of memory
  told : (x : DeterminismRefusal) (handed : RecheckRefusal)
      → ((g : GrammarView) → r.grammar ≡ Some g → IsReason r g holes x → ¬ IsNoMemory x)
      → handed ≡ k.Certify (c.Determinism x) → IsSome r.grammar → IsReasonBeside r holes x
      → IsBeforeConflict x ⊎ IsCertificateOfExtension r text → IsFaultBeside r holes text handed
  told x handed other is there reason time host h host_start same operations kinds =
      let (g, start) = some_in r.grammar there in
      subst (IsBesideRecheckRefusal host r operations text) (sym is) (
        (
          record {
            kinds = kinds;
            host_grammar = h;
            host_start = host_start;
            grammar = g;
            start = start;
            reason = subst (λ (z : GrammarView). IsReason r g z x) same (reason g start);
          },
          other g start (reason g start),
        ),
        time,
      )

  -- the extension isn't deterministic beside the host
  pub grammar_beside : (x : DeterminismRefusal) (handed : RecheckRefusal) → IsReasonHandedOn x handed → IsSome r.grammar
      → IsReasonBeside r holes x → IsBeforeConflict x ⊎ IsCertificateOfExtension r text → IsFaultBeside r holes text handed
  grammar_beside (d.Markers m) handed is there reason time = told (d.Markers m) handed (λ g start why. why.1) is there reason time
  grammar_beside (d.PreferenceCycle cycle) handed is there reason time =
      told (d.PreferenceCycle cycle) handed (λ g start why n. n) is there reason time
  grammar_beside (d.NotReduced which) handed is there reason time =
      told (d.NotReduced which) handed (λ g start why n. n) is there reason time
  grammar_beside (d.UnitCycle list) handed is there reason time = told (d.UnitCycle list) handed (λ g start why n. n) is there reason time
  grammar_beside (d.HiddenLeftRecursion list) handed is there reason time =
      told (d.HiddenLeftRecursion list) handed (λ g start why n. n) is there reason time
  grammar_beside (d.Conflict prefix terminal first second) handed is there reason time =
      told (d.Conflict prefix terminal first second) handed (λ g start why n. n) is there reason time
  grammar_beside (d.Clash prefix left right shown) handed is there reason time =
      told (d.Clash prefix left right shown) handed (λ g start why n. n) is there reason time
  grammar_beside (d.Lookahead prefix item terminal) handed is there reason time =
      told (d.Lookahead prefix item terminal) handed (λ g start why n. n) is there reason time
  grammar_beside (d.Envelope prefix fault) handed is there reason time =
      told (d.Envelope prefix fault) handed (λ g start why n. n) is there reason time
  grammar_beside (d.NoMemory error) handed is there reason time =
      λ host h host_start same operations kinds. memory_beside r operations text host handed is

  -- a rule of markers fails
  pub marks_beside : (x : DeterminismRefusal) (handed : RecheckRefusal) → IsReasonHandedOn x handed → IsSome r.grammar → IsMarkReason r x
      → IsBeforeConflict x → IsFaultBeside r holes text handed
  marks_beside x handed is there reason before = grammar_beside x handed is there (λ g start. reason g holes start) (inl before)

  -- what hosts are asked before the conflict is asked of extensions too
  host_reason : (x : DeterminismRefusal) (g : GrammarView) → IsBeforeConflict x → IsHostRefusal r g x → IsExtensionRefusal r g holes x
  host_reason (d.Markers m) g before is = is
  host_reason (d.PreferenceCycle cycle) g before is = is
  host_reason (d.NotReduced which) g before is = is
  host_reason (d.UnitCycle list) g before is = is
  host_reason (d.HiddenLeftRecursion list) g before is = is
  host_reason (d.Conflict prefix terminal first second) g before is = absurd before
  host_reason (d.Clash prefix left right shown) g before is = absurd before
  host_reason (d.Lookahead prefix item terminal) g before is = absurd before
  host_reason (d.Envelope prefix fault) g before is = absurd before
  host_reason (d.NoMemory error) g before is = tt

  module _ (keeps : KeepMarkers r) (x : DeterminismRefusal) (handed : RecheckRefusal) (is : IsReasonHandedOn x handed)
      (there : IsSome r.grammar) where
    -- a rule before the conflict fails
    pub facts_beside : IfSome r.grammar (λ g. IsHostRefusal r g x) → IsBeforeConflict x → IsFaultBeside r holes text handed
    facts_beside reason before =
        grammar_beside x handed is there
        (whole_reason r holes keeps x (IfSome_then r.grammar reason (λ g why. host_reason x g before why))) (inl before)

    -- one from the conflict on
    pub judged_beside : IfSome r.grammar (λ g. IsExtensionRefusal r g holes x) → IsCertificateOfExtension r text
        → IsFaultBeside r holes text handed
    judged_beside reason certificate = grammar_beside x handed is there (whole_reason r holes keeps x reason) (inr certificate)

module _ (host : CertifiedView) (r : ResolvedParts) (parts : HostParts) (text : List ℕ) (extends : Extends host.resolved r)
    (is_host : IsCertified host) (are : parts ≡ host.parts) where
  -- the parts are those of the host beside which the extension is tested
  pub beside : IsBeside r parts
  beside = record {
    grammar = start_is host r parts extends is_host are;
    host = parts_beside host r parts extends is_host are;
    one = ap length extends.names.value.extensions;
  }

  -- what is true beside each host with this grammar is true beside the host
  pub later_beside : (refusal : RecheckRefusal) → IsFaultBeside r parts.grammar text refusal → IsLaterBeside host.resolved r text refusal
  later_beside refusal fault =
      fault host.resolved is_host.certified.grammar is_host.certified.start
      (ap (λ (p : HostParts). p.grammar) are ∙ (is_host.parts is_host.certified.grammar is_host.certified.start).grammar)

  -- what is found beside the parts is found beside the host
  pub found_beside : AreClearBeside r parts.grammar → IsCertificateOfExtension r text → IsFoundBeside host r text
  found_beside clear certificate =
      let made = made_beside host r parts extends is_host are clear in record {
        host_certified = made.host_certified;
        found = made.found;
        certificate = certificate;
      }

-- attributes that aren't well defined
pub attributes_beside : (host r : ResolvedParts) (operations : List OperationSignature) (text : List ℕ) → KindsOk r.attributes operations
    → IsFound host r → IsCertificateOfExtension r text → (refusal : CertifyRefusal) (handed : RecheckRefusal) → IsHandedOn refusal handed
    → IsAttributesReason r refusal → IsBesideRecheckRefusal host r operations text handed
attributes_beside host r operations text kinds is certificate (c.Names refusal) handed on reason = absurd reason
attributes_beside host r operations text kinds is certificate (c.Types refusal) handed on reason = absurd reason
attributes_beside host r operations text kinds is certificate c.NoStart handed on reason = absurd reason
attributes_beside host r operations text kinds is certificate (c.Determinism refusal) handed on reason = absurd reason
attributes_beside host r operations text kinds is certificate (c.Attributes refusal) handed on reason =
    subst (IsBesideRecheckRefusal host r operations text) (sym on)
    (attributes_refused host r operations kinds is (c.Attributes refusal) reason, certificate)
attributes_beside host r operations text kinds is certificate (c.NoMemory error) handed on reason =
    memory_beside r operations text host handed on

module _ (host : ResolvedParts) (spec : SpecView) (r : ResolvedParts) (operations : List OperationSignature) (text : List ℕ)
    (names : ResolvesExtension host spec r) where
  -- the specification is certified where its value is
  pub certified_extension : {X : Type 0} (result : Result X RecheckRefusal) → IsCertifiedValue host operations
      → IfOk result (λ done. IsCertifiedBeside host r operations) → IfOk result (λ done. IsCertifiedExtension host spec operations)
  certified_extension (Ok done) host_certified is = record {
    host_certified = host_certified;
    resolved = r;
    names = names;
    certified = is;
  }
  certified_extension (Err refusal) host_certified is = tt

  -- and the text is a certificate of it
  pub certificate_kept : {X : Type 0} (result : Result X RecheckRefusal) → IfOk result (λ done. IsCertificateOfExtension r text)
      → IfOk result (λ done. HasExtensionCertificate host spec text)
  certificate_kept (Ok done) is = record { resolved = r; names = names; is = is }
  certificate_kept (Err refusal) is = tt

  -- a refusal of its value is one of the specification
  of_rule : (x : CertifyRefusal) → IsBesideRecheckRefusal host r operations text (k.Certify x)
      → IsRuleRefusal host spec operations text x
  of_rule (c.Names refusal) reason = absurd reason.0
  of_rule (c.Types refusal) reason = record { resolved = r; names = names; reason = reason }
  of_rule c.NoStart reason = record { resolved = r; names = names; reason = reason }
  of_rule (c.Determinism refusal) reason = record { resolved = r; names = names; reason = reason }
  of_rule (c.Attributes refusal) reason = record { resolved = r; names = names; reason = reason }
  of_rule (c.NoMemory error) reason = record { resolved = r; names = names; reason = reason }

  of_value : (refusal : RecheckRefusal) → IsBesideRecheckRefusal host r operations text refusal
      → IsExtensionRecheckRefusal host spec operations text refusal
  of_value (k.Certify x) reason = of_rule x reason
  of_value (k.Syntax place) reason = record { resolved = r; names = names; reason = reason }
  of_value (k.WrongLine line) reason = record { resolved = r; names = names; reason = reason }
  of_value (k.Missing kernel) reason = record { resolved = r; names = names; reason = reason }
  of_value (k.NoMemory error) reason = tt

  pub extension_refused : {X : Type 0} (result : Result X RecheckRefusal) → IfErr result (IsBesideRecheckRefusal host r operations text)
      → IfErr result (IsExtensionRecheckRefusal host spec operations text)
  extension_refused (Ok done) reason = tt
  extension_refused (Err refusal) reason = of_value refusal reason
