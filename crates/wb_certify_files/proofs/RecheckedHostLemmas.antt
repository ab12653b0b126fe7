-- What is shown of a host that isn't certified by a text.
use Rattle.std.proofs.Common.{inl, inr, ℕ, List}
use Rattle.wb_certify_files.proofs.ShownHosts.{value_shown}
use Rattle.wb_certify_files.specs.HostContents.{StandsFor}
use Rattle.wb_certify_files.specs.Inner.RefusedHosts.{IsCertifyMemory}
use Rattle.wb_certify_files.specs.Unresolved.{IsUnresolved}
use Rattle.wb_certify_files.specs.declared.host_refusal.HostRefusal.{HostRefusal}
use Rattle.wb_certify_files.specs.declared.host_refusal.HostRefusal.TheVariants as h
use Rattle.wb_recheck.specs.certify_refusal.CertifyRefusal.{CertifyRefusal}
use Rattle.wb_recheck.specs.certify_refusal.CertifyRefusal.TheVariants as c
use Rattle.wb_certify_shown.specs.Shows.{refusal_shown}
use Rattle.wb_operations.specs.Operations.{OperationSignature}
use Rattle.wb_recheck.specs.Certificates.{IsCertificateOfHost}
use Rattle.wb_recheck.specs.HostRefusals.{IsInTime, IsNoHostCertificate, IsValueRecheckRefusal}
use Rattle.wb_recheck.specs.declared.refusal.RecheckRefusal.{RecheckRefusal}
use Rattle.wb_recheck.specs.declared.refusal.RecheckRefusal.TheVariants as r
use Rattle.wb_recheck_entries.specs.declared.fault.CertificateFault.{CertificateFault}
use Rattle.wb_syntax_resolved.specs.declared.resolved.ResolvedParts.{ResolvedParts}
use Rattle.wb_certify_files.specs.RecheckedHosts.{IsNoHost, IsRefusedHost}
use Rattle.wb_certify_files.specs.Inner.RecheckShown.{HasLine, IsShownAs, of_host}
use Rattle.wb_certify_files.specs.declared.contents_refusal.ContentsRefusal.{ContentsRefusal}
use Rattle.wb_certify_files.specs.declared.contents_refusal.ContentsRefusal.TheVariants as k
use Rattle.wb_certify_files.proofs.RecheckShownLemmas.{Holds, shown_true}

-- out of memory doesn't come in time
not_memory : (Certified : Type 0) (rule : CertifyRefusal) → IsInTime Certified rule → ¬ IsCertifyMemory rule
not_memory Certified (c.Names x) time memory = memory
not_memory Certified (c.Types x) time memory = memory
not_memory Certified c.NoStart time memory = memory
not_memory Certified (c.Determinism x) time memory = memory
not_memory Certified (c.Attributes x) time memory = memory
not_memory Certified (c.NoMemory x) time memory = time

-- contents that stand for no value are refused, whatever the text is
pub unresolved_refused : (operations : List OperationSignature) (contents text : List ℕ) (refusal : HostRefusal)
    → IsUnresolved contents refusal → IsRefusedHost operations contents text (k.File (of_host refusal))
unresolved_refused operations contents text (h.Specification shown) is = inl is
unresolved_refused operations contents text (h.Certification shown) is = absurd is
unresolved_refused operations contents text (h.NoMemory error) is = tt

module _ (operations : List OperationSignature) (text : List ℕ) (value : ResolvedParts) where
  -- each refusal by a rule has a line
  pub host_line : (refusal : RecheckRefusal) → IsValueRecheckRefusal value operations text refusal → HasLine (refusal_shown value) refusal
  host_line (r.Certify rule) is = value_shown value operations rule is.0 (not_memory (IsCertificateOfHost value text) rule is.1)
  host_line (r.Syntax place) is = tt
  host_line (r.WrongLine number) is = tt
  host_line (r.Missing kernel) is = tt
  host_line (r.NoMemory error) is = tt

  pub host_holds : (refusal : RecheckRefusal) → IsValueRecheckRefusal value operations text refusal
      → Holds (λ rule. IsValueRecheckRefusal value operations text (r.Certify rule)) (IsNoHostCertificate value operations text) refusal
  host_holds (r.Certify rule) is = is
  host_holds (r.Syntax place) is = is
  host_holds (r.WrongLine number) is = is
  host_holds (r.Missing kernel) is = is
  host_holds (r.NoMemory error) is = tt

  -- what is shown is true of the contents
  pub host_shown : (contents : List ℕ) → StandsFor contents value → (refusal : RecheckRefusal)
      → IsValueRecheckRefusal value operations text refusal → (handed : ContentsRefusal) → IsShownAs (refusal_shown value) refusal handed
      → IsRefusedHost operations contents text handed
  host_shown contents stands refusal is =
      shown_true (StandsFor contents) (λ v rule. IsValueRecheckRefusal v operations text (r.Certify rule))
      (λ v. IsNoHostCertificate v operations text) refusal_shown (IsNoHost contents) (λ name. ⊥) value stands refusal
      (host_holds refusal is)
