-- A refusal of a value is one of the contents that stand for it.
use Rattle.std.proofs.Common.{◌≡◌, inr, List, ℕ, Some, sym, subst}
use Rattle.wb_recheck.specs.Hosts.{IsOfText}
use Rattle.wb_recheck.specs.CertifyRefusals.{IsValueRefusal}
use Rattle.wb_recheck.specs.WellDefinedHosts.{IsWellDefinedRefusal}
use Rattle.wb_recheck.specs.certify_refusal.CertifyRefusal.{CertifyRefusal}
use Rattle.wb_recheck.specs.certify_refusal.CertifyRefusal.TheVariants as c
use Rattle.wb_operations.specs.Operations.{OperationSignature}
use Rattle.wb_report.specs.declared.refusal.Refusal.{Refusal}
use Rattle.wb_syntax_resolved.specs.declared.resolved.ResolvedParts.{ResolvedParts}
use Rattle.wb_certify_shown.specs.Shows.{refusal_shown}
use Rattle.wb_certify_files.specs.HostContents.{StandsFor, IsOfKinds, IsRefusedValue, IsHostRefusal}
use Rattle.wb_certify_files.specs.WellDefined.{IsWellDefinedTextRefusal}
use Rattle.wb_certify_files.specs.declared.host_refusal.HostRefusal.{HostRefusal}
use Rattle.wb_certify_files.specs.declared.host_refusal.HostRefusal.TheVariants as h
use Rattle.wb_certify_files.specs.Inner.RefusedHosts.{IsShownAs, IsSort}

-- a value that contents stand for is that of a text
pub of_text : (contents : List ℕ) (r : ResolvedParts) → StandsFor contents r → IsOfText r
of_text contents r stands = record { spec = stands.spec; written = (contents, stands.accepted.1); names = stands.names }

module _ (operations : List OperationSignature) (contents : List ℕ) (r : ResolvedParts) (stands : StandsFor contents r) (shown : Refusal)
  where
    refused : (Meets : CertifyRefusal → Type 0) (refusal : CertifyRefusal) → IsValueRefusal r operations refusal → Meets refusal
        → refusal_shown r refusal ≡ Some shown → IsRefusedValue operations contents Meets shown
    refused Meets refusal reason meets shows =
        record { value = r; stands = stands; refusal = refusal; reason = reason; meets = meets; shows = shows }

    certification : (refusal : CertifyRefusal) → IsValueRefusal r operations refusal → ¬ IsOfKinds refusal
        → refusal_shown r refusal ≡ Some shown → (sort : HostRefusal) → sort ≡ h.Certification shown
        → IsHostRefusal operations contents sort
    certification refusal reason other shows sort is =
        subst (IsHostRefusal operations contents) (sym is) (refused (λ (z : CertifyRefusal). ¬ IsOfKinds z) refusal reason other shows)

    value_refused : (refusal : CertifyRefusal) → IsValueRefusal r operations refusal → refusal_shown r refusal ≡ Some shown
        → (sort : HostRefusal) → IsSort refusal shown sort → IsHostRefusal operations contents sort
    value_refused (c.Types refusal) reason shows sort is =
        subst (IsHostRefusal operations contents) (sym is) (inr (inr (refused IsOfKinds (c.Types refusal) reason tt shows)))
    value_refused (c.Names refusal) reason shows sort is = absurd reason
    value_refused c.NoStart reason shows sort is = certification c.NoStart reason (λ z. z) shows sort is
    value_refused (c.Determinism refusal) reason shows sort is = certification (c.Determinism refusal) reason (λ z. z) shows sort is
    value_refused (c.Attributes refusal) reason shows sort is = certification (c.Attributes refusal) reason (λ z. z) shows sort is
    value_refused (c.NoMemory error) reason shows sort is = certification (c.NoMemory error) reason (λ z. z) shows sort is

    -- and one of attributes is too
    ill_defined_refused : (refusal : CertifyRefusal) → IsWellDefinedRefusal r operations refusal → refusal_shown r refusal ≡ Some shown
        → (sort : HostRefusal) → IsSort refusal shown sort → IsWellDefinedTextRefusal operations contents sort
    ill_defined_refused (c.Types refusal) reason shows sort is =
        subst (IsWellDefinedTextRefusal operations contents) (sym is)
        (inr (inr (record { value = r; stands = stands; refusal = c.Types refusal; reason = reason; meets = tt; shows = shows })))
    ill_defined_refused (c.Attributes refusal) reason shows sort is =
        subst (IsWellDefinedTextRefusal operations contents) (sym is)
        (record { value = r; stands = stands; refusal = c.Attributes refusal; reason = reason; meets = λ z. z; shows = shows })
    ill_defined_refused (c.NoMemory error) reason shows sort is =
        subst (IsWellDefinedTextRefusal operations contents) (sym is)
        (record { value = r; stands = stands; refusal = c.NoMemory error; reason = tt; meets = λ z. z; shows = shows })
    ill_defined_refused (c.Names refusal) reason shows sort is = absurd reason
    ill_defined_refused c.NoStart reason shows sort is = absurd reason
    ill_defined_refused (c.Determinism refusal) reason shows sort is = absurd reason

module _ (r : ResolvedParts) (refusal : CertifyRefusal) where
  -- what is shown of it, by its sort
  pub shown_as : (shown : Refusal) → refusal_shown r refusal ≡ Some shown → (sort : HostRefusal) → IsSort refusal shown sort
      → IsShownAs r refusal sort
  shown_as shown shows (h.Specification other) is = (shown, shows, is)
  shown_as shown shows (h.Certification other) is = (shown, shows, is)
  shown_as shown shows (h.NoMemory error) is = tt

  module _ (operations : List OperationSignature) (contents : List ℕ) (stands : StandsFor contents r) where
    pub shown_refused : IsValueRefusal r operations refusal → (sort : HostRefusal) → IsShownAs r refusal sort
        → IsHostRefusal operations contents sort
    shown_refused reason (h.Specification other) (shown, shows, is) =
        value_refused operations contents r stands shown refusal reason shows (h.Specification other) is
    shown_refused reason (h.Certification other) (shown, shows, is) =
        value_refused operations contents r stands shown refusal reason shows (h.Certification other) is
    shown_refused reason (h.NoMemory error) is = tt

    pub shown_ill_defined : IsWellDefinedRefusal r operations refusal → (sort : HostRefusal) → IsShownAs r refusal sort
        → IsWellDefinedTextRefusal operations contents sort
    shown_ill_defined reason (h.Specification other) (shown, shows, is) =
        ill_defined_refused operations contents r stands shown refusal reason shows (h.Specification other) is
    shown_ill_defined reason (h.Certification other) (shown, shows, is) =
        ill_defined_refused operations contents r stands shown refusal reason shows (h.Certification other) is
    shown_ill_defined reason (h.NoMemory error) is = tt
