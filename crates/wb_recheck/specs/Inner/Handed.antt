-- Refusals of other crates, as they are handed on.
use Rattle.std.specs.Prelude.{◌≡◌, ℕ, List}
use Rattle.wb_certify.specs.certify_refusal.CertifyRefusal.{CertifyRefusal}
use Rattle.wb_certify.specs.certify_refusal.CertifyRefusal.TheVariants as c
use Rattle.wb_certify.specs.determinism_refusal.DeterminismRefusal.{DeterminismRefusal}
use Rattle.wb_certify.specs.determinism_refusal.DeterminismRefusal.TheVariants as d
use Rattle.wb_operations.specs.Operations.{OperationSignature}
use Rattle.wb_recheck_entries.specs.declared.fault.CertificateFault.{CertificateFault}
use Rattle.wb_recheck_entries.specs.declared.fault.CertificateFault.TheVariants as f
use Rattle.wb_syntax_resolved.specs.declared.resolved.ResolvedParts.{ResolvedParts}
use Rattle.wb_recheck.specs.declared.refusal.RecheckRefusal.{RecheckRefusal}
use Rattle.wb_recheck.specs.declared.refusal.RecheckRefusal.TheVariants as k
use Rattle.wb_recheck.specs.ExtensionRefusals.{IsBesideRecheckRefusal}
use Rattle.wb_recheck.specs.HostRefusals.{IsMemory, IsValueRecheckRefusal}

-- the refusal by a rule, and as it is handed on
abbrev pub IsHandedOn : CertifyRefusal → RecheckRefusal → Type 0
IsHandedOn (c.NoMemory error) handed = IsMemory handed
IsHandedOn refusal handed = handed ≡ k.Certify refusal

-- the refusal by a rule of markers, grammars or scanners, and as it is handed on
abbrev pub IsReasonHandedOn : DeterminismRefusal → RecheckRefusal → Type 0
IsReasonHandedOn (d.NoMemory error) handed = IsMemory handed
IsReasonHandedOn refusal handed = handed ≡ k.Certify (c.Determinism refusal)

-- the refusal for a fault of the text
abbrev pub refusal_of : CertificateFault → RecheckRefusal
refusal_of (f.Syntax place) = k.Syntax place
refusal_of (f.WrongLine line) = k.WrongLine line
refusal_of (f.Missing kernel) = k.Missing kernel
refusal_of (f.NoMemory error) = k.NoMemory error

-- a rule of kinds fails for this reason, whatever the text is and whatever host an extension is for
pub record IsKindFault (r : ResolvedParts) (operations : List OperationSignature) (refusal : RecheckRefusal) : Type 0 where
  pub of_host : (text : List ℕ) → IsValueRecheckRefusal r operations text refusal
  pub beside : (host : ResolvedParts) (text : List ℕ) → IsBesideRecheckRefusal host r operations text refusal
