-- What each test of a host after its kinds tells.
use Rattle.std.specs.Prelude.{◌≡◌, ℕ, List, Some}
use Rattle.wb_base.specs.Grammar.{GrammarView}
use Rattle.wb_certify.specs.CertifyRefusals.{IsDeterministic}
use Rattle.wb_certify.specs.DeterministicHosts.{AreHostParts}
use Rattle.wb_certify.specs.parts.HostParts.{HostParts}
use Rattle.wb_operations.specs.Operations.{OperationSignature}
use Rattle.wb_syntax_resolved.specs.Resolved.{IsResolved}
use Rattle.wb_syntax_resolved.specs.declared.resolved.ResolvedParts.{ResolvedParts}
use Rattle.wb_types.specs.Rules.{KindsOk}
use Rattle.wb_recheck.specs.declared.refusal.RecheckRefusal.{RecheckRefusal}
use Rattle.wb_recheck.specs.Certificates.{IsCertificateOfHost}
use Rattle.wb_recheck.specs.HostRefusals.{IsValueRecheckRefusal}

-- where expressions are of their kinds over some operations, the refusal is true
abbrev pub IsLaterRefusal : ResolvedParts → List ℕ → RecheckRefusal → Type 0
IsLaterRefusal r text refusal =
    (operations : List OperationSignature) → KindsOk r.attributes operations → IsValueRecheckRefusal r operations text refusal

-- the host is deterministic, these parts are those of its grammar, and the text is a certificate of it
pub record IsFound (r : ResolvedParts) (text : List ℕ) (parts : HostParts) : Type 0 where
  pub whole : IsResolved r
  pub deterministic : IsDeterministic r
  pub of_grammar : (g : GrammarView) → r.grammar ≡ Some g → AreHostParts r g parts
  pub certificate : IsCertificateOfHost r text
