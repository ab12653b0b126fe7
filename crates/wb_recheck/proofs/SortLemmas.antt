-- Refusals of one value and of a text are of one sort.
use Rattle.std.proofs.Common.{◌≡◌, ◌⊎◌, inl, inr, ℕ, List, Some, None, sym, subst, ◌∙◌}
use Rattle.std.specs.Prelude.{Option}
use Rattle.std.proofs.lemmas.Option.{same_Some}
use Rattle.wb_base.specs.Grammar.{GrammarView}
use Rattle.wb_grammar_theory.proofs.CycleLemmas.{first_element, hidden_cycle_above, unit_cycle_member}
use Rattle.wb_certify.specs.CertifyRefusals.{IsDeterminismOf, IsValueRefusal}
use Rattle.wb_certify.specs.certify_refusal.CertifyRefusal.{CertifyRefusal}
use Rattle.wb_certify.specs.certify_refusal.CertifyRefusal.TheVariants as c
use Rattle.wb_certify.specs.Extensions.{AreMarkersKept}
use Rattle.wb_certify.specs.Refusals.{IsBesideRefusal, IsReason}
use Rattle.wb_certify.proofs.DeterminismRefusalLemmas.{not_reduced}
use Rattle.wb_certify.specs.DeterministicHosts.{IsFitForParsing}
use Rattle.wb_certify.specs.DeterminismRefusals.{IsBeforeConflict, IsHostRefusal, IsNoMemory}
use Rattle.wb_certify.specs.determinism_refusal.DeterminismRefusal.{DeterminismRefusal}
use Rattle.wb_certify.specs.determinism_refusal.DeterminismRefusal.TheVariants as d
use Rattle.wb_marking.proofs.RefusalLemmas.{bridges_excluded, clash_excluded}
use Rattle.wb_marking_holes.specs.Holes.{with_holes_of}
use Rattle.wb_operations.specs.Operations.{OperationSignature}
use Rattle.wb_recheck_entries.specs.Texts.{IsExtensionHead, IsFault, IsHostHead}
use Rattle.wb_recheck_entries.specs.declared.fault.CertificateFault.{CertificateFault}
use Rattle.wb_syntax_resolved.specs.declared.resolved.ResolvedParts.{ResolvedParts}
use Rattle.wb_recheck.specs.Certificates.{IsCertificateOfExtension, IsCertificateOfHost, IsFaultOfExtension, IsFaultOfHost}
use Rattle.wb_recheck.specs.ExtensionRefusals.{IsNoExtensionCertificate}
use Rattle.wb_recheck.specs.HostRefusals.{IsInTime, IsNoHostCertificate}
use Rattle.wb_recheck.specs.OneAnswer.{AreAlike, HasOneExtensionSort, HasOneHostSort, IsFaultMemory, IsOfKinds}
use Rattle.wb_recheck.proofs.AnswerLemmas.{extension_excluded, first_same, host_excluded, kinds_exclude, none_some}
use Rattle.wb_recheck.proofs.FaultLemmas.{HasNoFault, HasOneCertificate}
use Rattle.wb_recheck.proofs.OneFaultLemmas.{HasOneFault, alike}

module _ (r : ResolvedParts) (g : GrammarView) (fit : IsFitForParsing r g) where
  -- what is fit for parsing isn't refused by a rule before the conflict
  fit_excluded : (refusal : DeterminismRefusal) → IsBeforeConflict refusal → IsHostRefusal r g refusal → IsNoMemory refusal
  fit_excluded (d.Markers refusal) before is = absurd is
  fit_excluded (d.PreferenceCycle cycle) before is = absurd (fit.sound.acyclic cycle is.cycle_is)
  fit_excluded (d.NotReduced reason) before is = absurd (not_reduced g reason is.1 fit.sound.reduced)
  fit_excluded (d.UnitCycle list) before is =
      (let (a, at) = first_element list is.1.nonempty in
      absurd (fit.no_unit_cycle a (unit_cycle_member (with_holes_of g r.extensible) list is.1 0 a at)))
  fit_excluded (d.HiddenLeftRecursion list) before is =
      absurd (fit.no_hidden_left_recursion is.2.above (hidden_cycle_above (with_holes_of g r.extensible) list is.2))
  fit_excluded (d.Conflict prefix terminal first second) before is = absurd before
  fit_excluded (d.Clash prefix left right text) before is = absurd before
  fit_excluded (d.Lookahead prefix item terminal) before is = absurd before
  fit_excluded (d.Envelope prefix fault) before is = absurd before
  fit_excluded (d.NoMemory error) before is = tt

  -- nor is an extension, where markers keep their rules
  kept_excluded : AreMarkersKept r g → (host : GrammarView) (refusal : DeterminismRefusal) → IsBeforeConflict refusal
      → IsReason r g host refusal → IsNoMemory refusal
  kept_excluded kept host (d.Markers refusal) before is = elim is.0 [
    | inl bridge ↦ bridges_excluded r g refusal kept.bridges bridge
    | inr clash ↦ clash_excluded r refusal kept.clashes clash.2
  ]
  kept_excluded kept host (d.PreferenceCycle cycle) before is = absurd (fit.sound.acyclic cycle is.1.cycle_is)
  kept_excluded kept host (d.NotReduced reason) before is = fit_excluded (d.NotReduced reason) before is.1
  kept_excluded kept host (d.UnitCycle list) before is = fit_excluded (d.UnitCycle list) before is.1
  kept_excluded kept host (d.HiddenLeftRecursion list) before is = fit_excluded (d.HiddenLeftRecursion list) before is.1
  kept_excluded kept host (d.Conflict prefix terminal first second) before is = absurd before
  kept_excluded kept host (d.Clash prefix left right text) before is = absurd before
  kept_excluded kept host (d.Lookahead prefix item terminal) before is = absurd before
  kept_excluded kept host (d.Envelope prefix fault) before is = absurd before
  kept_excluded kept host (d.NoMemory error) before is = tt

module _ (r : ResolvedParts) (operations : List OperationSignature) (Certified : Type 0) where
  -- where kinds are right, no refusal of a host is by a rule of kinds
  host_kinds : (x y : CertifyRefusal) → IsValueRefusal r operations x → IsValueRefusal r operations y → IsInTime Certified y
      → IsOfKinds x → IsOfKinds y
  host_kinds (c.Names x) y first second time of_kinds = absurd of_kinds
  host_kinds (c.Types x) (c.Names y) first second time of_kinds = absurd second
  host_kinds (c.Types x) (c.Types y) first second time of_kinds = tt
  host_kinds (c.Types x) c.NoStart first second time of_kinds = kinds_exclude r operations second.kinds x first.0 first.1
  host_kinds (c.Types x) (c.Determinism y) first second time of_kinds = kinds_exclude r operations second.0.kinds x first.0 first.1
  host_kinds (c.Types x) (c.Attributes y) first second time of_kinds = kinds_exclude r operations second.0.kinds x first.0 first.1
  host_kinds (c.Types x) (c.NoMemory error) first second time of_kinds = absurd time
  host_kinds c.NoStart y first second time of_kinds = absurd of_kinds
  host_kinds (c.Determinism x) y first second time of_kinds = absurd of_kinds
  host_kinds (c.Attributes x) y first second time of_kinds = absurd of_kinds
  host_kinds (c.NoMemory error) y first second time of_kinds = absurd of_kinds

  -- and none of an extension is
  beside_kinds : (host : ResolvedParts) (x y : CertifyRefusal) → IsBesideRefusal host r operations x → IsBesideRefusal host r operations y
      → IsInTime Certified y → IsOfKinds x → IsOfKinds y
  beside_kinds host (c.Names x) y first second time of_kinds = absurd of_kinds
  beside_kinds host (c.Types x) (c.Names y) first second time of_kinds = absurd second
  beside_kinds host (c.Types x) (c.Types y) first second time of_kinds = tt
  beside_kinds host (c.Types x) c.NoStart first second time of_kinds = absurd second
  beside_kinds host (c.Types x) (c.Determinism y) first second time of_kinds = kinds_exclude r operations second.0.kinds x first.0 first.1
  beside_kinds host (c.Types x) (c.Attributes y) first second time of_kinds = kinds_exclude r operations second.0.kinds x first.0 first.1
  beside_kinds host (c.Types x) (c.NoMemory error) first second time of_kinds = absurd time
  beside_kinds host c.NoStart y first second time of_kinds = absurd of_kinds
  beside_kinds host (c.Determinism x) y first second time of_kinds = absurd of_kinds
  beside_kinds host (c.Attributes x) y first second time of_kinds = absurd of_kinds
  beside_kinds host (c.NoMemory error) y first second time of_kinds = absurd of_kinds

module _ (no_fault : HasNoFault) (one : HasOneCertificate) (one_place : HasOneFault) (r : ResolvedParts)
    (operations : List OperationSignature) (text : List ℕ) where
  -- a host whose text is refused isn't refused by a rule that comes in time
  host_rule : (x : CertifyRefusal) (fault : CertificateFault) → IsValueRefusal r operations x → IsInTime (IsCertificateOfHost r text) x
      → IsNoHostCertificate r operations text fault → IsFaultMemory fault
  host_rule (c.Names x) fault is time not = absurd is
  host_rule (c.Types x) fault is time not = absurd (kinds_exclude r operations not.kinds x is.0 is.1)
  host_rule c.NoStart fault is time not = absurd (none_some (sym is.none ∙ not.of_text.start))
  host_rule (c.Determinism x) fault is (inl before) not =
      let has = not.of_text in
      absurd (is.1 (fit_excluded r has.grammar has.fit x before
      (subst (λ (o : Option GrammarView). IsDeterminismOf r o x) has.start is.0.reason)))
  host_rule (c.Determinism x) fault is (inr certificate) not = host_excluded no_fault one r text certificate fault not.of_text
  host_rule (c.Attributes x) fault is time not = host_excluded no_fault one r text time fault not.of_text
  host_rule (c.NoMemory error) fault is time not = absurd time

  -- nor is an extension
  beside_rule : (host : ResolvedParts) (x : CertifyRefusal) (fault : CertificateFault) → IsBesideRefusal host r operations x
      → IsInTime (IsCertificateOfExtension r text) x → IsNoExtensionCertificate r operations text fault → IsFaultMemory fault
  beside_rule host (c.Names x) fault is time not = absurd is
  beside_rule host (c.Types x) fault is time not = absurd (kinds_exclude r operations not.kinds x is.0 is.1)
  beside_rule host c.NoStart fault is time not = absurd is
  beside_rule host (c.Determinism x) fault is (inl before) not =
      let has = not.of_text in
      let beside = with_holes_of is.0.host_grammar host.extensible in
      absurd (is.1 (kept_excluded r has.grammar has.fit has.markers beside x before
      (subst (λ (g : GrammarView). IsReason r g beside x) (same_Some is.0.grammar has.grammar (sym is.0.start ∙ has.start)) is.0.reason)))
  beside_rule host (c.Determinism x) fault is (inr certificate) not = extension_excluded no_fault one r text certificate fault not.of_text
  beside_rule host (c.Attributes x) fault is time not = extension_excluded no_fault one r text time fault not.of_text
  beside_rule host (c.NoMemory error) fault is time not = absurd time

  -- faults of a host's text are alike
  host_alike : (x y : CertificateFault) → IsFaultOfHost r text x → IsFaultOfHost r text y → AreAlike x y
  host_alike x y p q =
      let same = same_Some q.grammar p.grammar (sym q.start ∙ p.start) in
      alike no_fault one one_place text (IsHostHead r.host) (with_holes_of p.grammar r.extensible) x y p.first
      (subst (λ (g : GrammarView). IsFault text (IsHostHead r.host) (with_holes_of g r.extensible) y) same q.first)

  -- and those of an extension's
  extension_alike : (x y : CertificateFault) → IsFaultOfExtension r text x → IsFaultOfExtension r text y → AreAlike x y
  extension_alike x y p q =
      let same = same_Some q.grammar p.grammar (sym q.start ∙ p.start) in
      let named = first_same no_fault one r text q.name p.name q.one p.one in
      alike no_fault one one_place text (IsExtensionHead p.name r.host) (with_holes_of p.grammar r.extensible) x y p.first
      (subst (λ (n : List ℕ). IsFault text (IsExtensionHead n r.host) (with_holes_of p.grammar r.extensible) y) named
      (subst (λ (g : GrammarView). IsFault text (IsExtensionHead q.name r.host) (with_holes_of g r.extensible) y) same q.first))

  pub one_host_sort : HasOneHostSort r operations text
  one_host_sort = record {
    kinds = λ x y first second. host_kinds r operations (IsCertificateOfHost r text) x y first.0 second.0 second.1;
    rule_or_text = λ x fault first. host_rule x fault first.0 first.1;
    one_text = λ x y first second. host_alike x y first.of_text second.of_text;
  }

  pub one_extension_sort : (host : ResolvedParts) → HasOneExtensionSort host r operations text
  one_extension_sort host = record {
    kinds = λ x y first second. beside_kinds r operations (IsCertificateOfExtension r text) host x y first.0 second.0 second.1;
    rule_or_text = λ x fault first. beside_rule host x fault first.0 first.1;
    one_text = λ x y first second. extension_alike x y first.of_text second.of_text;
  }
