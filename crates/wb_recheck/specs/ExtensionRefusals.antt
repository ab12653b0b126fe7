-- Why an extension isn't certified with its host by a text: each reason with a true example, where no earlier one holds.
use Rattle.std.specs.Prelude.{ℕ, List}
use Rattle.wb_certify.specs.CertifyRefusals.{IsNameMemory}
use Rattle.wb_certify.specs.certify_refusal.CertifyRefusal.{CertifyRefusal}
use Rattle.wb_certify.specs.certify_refusal.CertifyRefusal.TheVariants as c
use Rattle.wb_certify.specs.Refusals.{IsBesideRefusal}
use Rattle.wb_certify.specs.Resolving.{IsExtensionNameRefusal, ResolvesExtension}
use Rattle.wb_operations.specs.Operations.{OperationSignature}
use Rattle.wb_recheck_entries.specs.declared.fault.CertificateFault.{CertificateFault}
use Rattle.wb_recheck_entries.specs.declared.fault.CertificateFault.TheVariants as f
use Rattle.wb_syntax_resolved.specs.declared.resolved.ResolvedParts.{ResolvedParts}
use Rattle.wb_syntax.specs.SpecText.{SpecView}
use Rattle.wb_types.specs.Rules.{KindsOk}
use Rattle.wb_recheck.specs.declared.refusal.RecheckRefusal.{RecheckRefusal}
use Rattle.wb_recheck.specs.declared.refusal.RecheckRefusal.TheVariants as k
use Rattle.wb_recheck.specs.Certificates.{IsCertificateOfExtension, IsFaultOfExtension}
use Rattle.wb_recheck.specs.HostRefusals.{IsInTime}

-- expressions are of their kinds, markers keep their rules, the host with the extension is fit for parsing, and of the extension's
-- certificates the text is none for this reason
pub record IsNoExtensionCertificate (r : ResolvedParts) (operations : List OperationSignature) (text : List ℕ) (fault : CertificateFault) :
    Type 0 where
  pub kinds : KindsOk r.attributes operations
  pub of_text : IsFaultOfExtension r text fault

-- the refusal of a host with an extension and of a text is true: a rule fails that comes before the text, the text is no certificate, or it
-- is one and a rule after it fails. Out of memory says nothing, and is in no other reason
abbrev pub IsBesideRecheckRefusal : (host r : ResolvedParts) → List OperationSignature → List ℕ → RecheckRefusal → Type 0
IsBesideRecheckRefusal host r operations text (k.Certify refusal) =
    IsBesideRefusal host r operations refusal × IsInTime (IsCertificateOfExtension r text) refusal
IsBesideRecheckRefusal host r operations text (k.Syntax place) = IsNoExtensionCertificate r operations text (f.Syntax place)
IsBesideRecheckRefusal host r operations text (k.WrongLine line) = IsNoExtensionCertificate r operations text (f.WrongLine line)
IsBesideRecheckRefusal host r operations text (k.Missing kernel) = IsNoExtensionCertificate r operations text (f.Missing kernel)
IsBesideRecheckRefusal host r operations text (k.NoMemory error) = Unit {0}

-- the specification's names are right, and with the host the extension isn't certified by the text for this reason
pub record IsNotRechecked (host : ResolvedParts) (spec : SpecView) (operations : List OperationSignature) (text : List ℕ)
    (refusal : RecheckRefusal) : Type 0 where
  pub resolved : ResolvedParts
  pub names : ResolvesExtension host spec resolved
  pub reason : IsBesideRecheckRefusal host resolved operations text refusal

-- the specification's names aren't right for this reason, or they are and a rule fails
abbrev pub IsRuleRefusal : ResolvedParts → SpecView → List OperationSignature → List ℕ → CertifyRefusal → Type 0
IsRuleRefusal host spec operations text (c.Names refusal) = IsExtensionNameRefusal host spec refusal × ¬ IsNameMemory refusal
IsRuleRefusal host spec operations text other = IsNotRechecked host spec operations text (k.Certify other)

-- the refusal of a specification as an extension of this host and of a text is true: its names aren't right for this reason, or they are
-- and the extension isn't certified by the text
abbrev pub IsExtensionRecheckRefusal : ResolvedParts → SpecView → List OperationSignature → List ℕ → RecheckRefusal → Type 0
IsExtensionRecheckRefusal host spec operations text (k.Certify refusal) = IsRuleRefusal host spec operations text refusal
IsExtensionRecheckRefusal host spec operations text (k.NoMemory error) = Unit {0}
IsExtensionRecheckRefusal host spec operations text other = IsNotRechecked host spec operations text other
