-- Why a host isn't certified by a text: each reason with a true example, where no earlier one holds.
use Rattle.std.specs.Prelude.{◌⊎◌, ℕ, List}
use Rattle.wb_certify.specs.CertifyRefusals.{IsNameMemory, IsValueRefusal}
use Rattle.wb_certify.specs.certify_refusal.CertifyRefusal.{CertifyRefusal}
use Rattle.wb_certify.specs.certify_refusal.CertifyRefusal.TheVariants as c
use Rattle.wb_certify.specs.DeterminismRefusals.{IsBeforeConflict}
use Rattle.wb_certify.specs.Resolving.{IsHostNameRefusal, ResolvesHost}
use Rattle.wb_operations.specs.Operations.{OperationSignature}
use Rattle.wb_recheck_entries.specs.declared.fault.CertificateFault.{CertificateFault}
use Rattle.wb_recheck_entries.specs.declared.fault.CertificateFault.TheVariants as f
use Rattle.wb_syntax_resolved.specs.declared.resolved.ResolvedParts.{ResolvedParts}
use Rattle.wb_syntax.specs.SpecText.{SpecView}
use Rattle.wb_types.specs.Rules.{KindsOk}
use Rattle.wb_recheck.specs.declared.refusal.RecheckRefusal.{RecheckRefusal}
use Rattle.wb_recheck.specs.declared.refusal.RecheckRefusal.TheVariants as k
use Rattle.wb_recheck.specs.Certificates.{IsCertificateOfHost, IsFaultOfHost}

-- the refusal comes in time: it is by a rule before the conflict, or the text is a certificate, as `Certified` says. Out of memory is no
-- rule
abbrev pub IsInTime : Type 0 → CertifyRefusal → Type 0
IsInTime Certified (c.Names refusal) = Unit {0}
IsInTime Certified (c.Types refusal) = Unit {0}
IsInTime Certified c.NoStart = Unit {0}
IsInTime Certified (c.Determinism refusal) = IsBeforeConflict refusal ⊎ Certified
IsInTime Certified (c.Attributes refusal) = Certified
IsInTime Certified (c.NoMemory error) = ⊥

-- expressions are of their kinds, a resolved host is fit for parsing, and of its certificates the text is none for this reason
pub record IsNoHostCertificate (r : ResolvedParts) (operations : List OperationSignature) (text : List ℕ) (fault : CertificateFault) :
    Type 0 where
  pub kinds : KindsOk r.attributes operations
  pub of_text : IsFaultOfHost r text fault

-- the refusal of a resolved host and a text is true: a rule fails that comes before the text, the text is no certificate, or it is one and
-- a rule after it fails. Out of memory says nothing, and is in no other reason
abbrev pub IsValueRecheckRefusal : ResolvedParts → List OperationSignature → List ℕ → RecheckRefusal → Type 0
IsValueRecheckRefusal r operations text (k.Certify refusal) =
    IsValueRefusal r operations refusal × IsInTime (IsCertificateOfHost r text) refusal
IsValueRecheckRefusal r operations text (k.Syntax place) = IsNoHostCertificate r operations text (f.Syntax place)
IsValueRecheckRefusal r operations text (k.WrongLine line) = IsNoHostCertificate r operations text (f.WrongLine line)
IsValueRecheckRefusal r operations text (k.Missing kernel) = IsNoHostCertificate r operations text (f.Missing kernel)
IsValueRecheckRefusal r operations text (k.NoMemory error) = Unit {0}

-- the specification's names are right, and the value that it stands for isn't certified by the text for this reason
pub record IsNotRechecked (spec : SpecView) (operations : List OperationSignature) (text : List ℕ) (refusal : RecheckRefusal) :
    Type 0 where
  pub resolved : ResolvedParts
  pub names : ResolvesHost spec resolved
  pub reason : IsValueRecheckRefusal resolved operations text refusal

-- the specification's names aren't right for this reason, or they are and a rule fails
abbrev pub IsRuleRefusal : SpecView → List OperationSignature → List ℕ → CertifyRefusal → Type 0
IsRuleRefusal spec operations text (c.Names refusal) = IsHostNameRefusal spec refusal × ¬ IsNameMemory refusal
IsRuleRefusal spec operations text other = IsNotRechecked spec operations text (k.Certify other)

-- the refusal of a specification as a host and of a text is true: its names aren't right for this reason, or they are and the value that it
-- stands for isn't certified by the text
abbrev pub IsHostRecheckRefusal : SpecView → List OperationSignature → List ℕ → RecheckRefusal → Type 0
IsHostRecheckRefusal spec operations text (k.Certify refusal) = IsRuleRefusal spec operations text refusal
IsHostRecheckRefusal spec operations text (k.NoMemory error) = Unit {0}
IsHostRecheckRefusal spec operations text other = IsNotRechecked spec operations text other

-- the refusal is that memory ran out
abbrev pub IsMemory : RecheckRefusal → Type 0
IsMemory (k.NoMemory error) = Unit {0}
IsMemory other = ⊥
