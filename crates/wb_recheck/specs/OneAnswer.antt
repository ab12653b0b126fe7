-- That there is one answer: what is certified, with a certificate, has no refusal but out of memory; and refusals are of one sort.
use Rattle.std.specs.Prelude.{◌≡◌, ℕ, List}
use Rattle.wb_certify.specs.Hosts.{IsCertifiedValue}
use Rattle.wb_certify.specs.certify_refusal.CertifyRefusal.{CertifyRefusal}
use Rattle.wb_certify.specs.certify_refusal.CertifyRefusal.TheVariants as c
use Rattle.wb_certify.specs.Extensions.{IsCertifiedBeside}
use Rattle.wb_operations.specs.Operations.{OperationSignature}
use Rattle.wb_recheck_entries.specs.declared.fault.CertificateFault.{CertificateFault}
use Rattle.wb_recheck_entries.specs.declared.fault.CertificateFault.TheVariants as f
use Rattle.wb_syntax_resolved.specs.declared.resolved.ResolvedParts.{ResolvedParts}
use Rattle.wb_recheck.specs.declared.refusal.RecheckRefusal.{RecheckRefusal}
use Rattle.wb_recheck.specs.declared.refusal.RecheckRefusal.TheVariants as k
use Rattle.wb_recheck.specs.Certificates.{IsCertificateOfExtension, IsCertificateOfHost}
use Rattle.wb_recheck.specs.ExtensionRefusals.{IsBesideRecheckRefusal, IsNoExtensionCertificate}
use Rattle.wb_recheck.specs.HostRefusals.{IsMemory, IsNoHostCertificate, IsValueRecheckRefusal}

-- a resolved host that is certified, and of which the text is a certificate, has no refusal, except when memory runs out
abbrev pub HasOneHostAnswer : ResolvedParts → List OperationSignature → List ℕ → Type 0
HasOneHostAnswer r operations text =
    IsCertifiedValue r operations → IsCertificateOfHost r text → (refusal : RecheckRefusal)
    → IsValueRecheckRefusal r operations text refusal → IsMemory refusal

-- so has an extension that is certified beside a host, and of which the text is a certificate
abbrev pub HasOneExtensionAnswer : (host r : ResolvedParts) → List OperationSignature → List ℕ → Type 0
HasOneExtensionAnswer host r operations text =
    IsCertifiedBeside host r operations → IsCertificateOfExtension r text → (refusal : RecheckRefusal)
    → IsBesideRecheckRefusal host r operations text refusal → IsMemory refusal

-- the rule is one of kinds
abbrev pub IsOfKinds : CertifyRefusal → Type 0
IsOfKinds (c.Types refusal) = Unit {0}
IsOfKinds other = ⊥

-- the fault is that memory ran out
abbrev pub IsFaultMemory : CertificateFault → Type 0
IsFaultMemory (f.NoMemory error) = Unit {0}
IsFaultMemory other = ⊥

-- the faults of a text are alike: they have one place, or one line, or show a kernel each; and out of memory is like any
abbrev pub AreAlike : CertificateFault → CertificateFault → Type 0
AreAlike (f.Syntax place) (f.Syntax other) = place ≡ other
AreAlike (f.Syntax place) (f.WrongLine line) = ⊥
AreAlike (f.Syntax place) (f.Missing kernel) = ⊥
AreAlike (f.Syntax place) (f.NoMemory error) = Unit {0}
AreAlike (f.WrongLine line) (f.Syntax place) = ⊥
AreAlike (f.WrongLine line) (f.WrongLine other) = line ≡ other
AreAlike (f.WrongLine line) (f.Missing kernel) = ⊥
AreAlike (f.WrongLine line) (f.NoMemory error) = Unit {0}
AreAlike (f.Missing kernel) (f.Syntax place) = ⊥
AreAlike (f.Missing kernel) (f.WrongLine line) = ⊥
AreAlike (f.Missing kernel) (f.Missing other) = Unit {0}
AreAlike (f.Missing kernel) (f.NoMemory error) = Unit {0}
AreAlike (f.NoMemory error) other = Unit {0}

-- of refusals of one value by rules, either all are by rules of kinds or none is; where one is by a rule the text isn't refused, except
-- when memory runs out; and faults of the text are alike
pub record AreOfOneSort (Rule : CertifyRefusal → Type 0) (Text : CertificateFault → Type 0) : Type 0 where
  pub kinds : (x y : CertifyRefusal) → Rule x → Rule y → IsOfKinds x → IsOfKinds y
  pub rule_or_text : (x : CertifyRefusal) (fault : CertificateFault) → Rule x → Text fault → IsFaultMemory fault
  pub one_text : (x y : CertificateFault) → Text x → Text y → AreAlike x y

-- refusals of a resolved host and a text are of one sort
abbrev pub HasOneHostSort : ResolvedParts → List OperationSignature → List ℕ → Type 0
HasOneHostSort r operations text =
    AreOfOneSort (λ refusal. IsValueRecheckRefusal r operations text (k.Certify refusal)) (IsNoHostCertificate r operations text)

-- so are those of an extension beside a host, and a text
abbrev pub HasOneExtensionSort : (host r : ResolvedParts) → List OperationSignature → List ℕ → Type 0
HasOneExtensionSort host r operations text =
    AreOfOneSort (λ refusal. IsBesideRecheckRefusal host r operations text (k.Certify refusal)) (IsNoExtensionCertificate r operations text)
