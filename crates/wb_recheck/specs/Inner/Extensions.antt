-- What each test of a host with an extension after its kinds tells.
use Rattle.std.specs.Prelude.{◌≡◌, ℕ, List, Some, IfSome, IsSome, length}
use Rattle.wb_base.specs.Grammar.{GrammarView}
use Rattle.wb_certify.specs.Hosts.{CertifiedView, IsCertified}
use Rattle.wb_certify.specs.Beside.{IsFound}
use Rattle.wb_certify.specs.DeterministicExtensions.{IsHostBeside}
use Rattle.wb_certify.specs.parts.HostParts.{HostParts}
use Rattle.wb_marking_holes.specs.Holes.{with_holes_of}
use Rattle.wb_operations.specs.Operations.{OperationSignature}
use Rattle.wb_syntax_resolved.specs.declared.resolved.ResolvedParts.{ResolvedParts}
use Rattle.wb_types.specs.Rules.{KindsOk}
use Rattle.wb_recheck.specs.declared.refusal.RecheckRefusal.{RecheckRefusal}
use Rattle.wb_recheck.specs.Certificates.{IsCertificateOfExtension}
use Rattle.wb_recheck.specs.ExtensionRefusals.{IsBesideRecheckRefusal}

-- the specification is that of a host with one extension, both have a start, and the parts are those of the host
pub record IsBeside (r : ResolvedParts) (parts : HostParts) : Type 0 where
  pub grammar : IsSome r.grammar
  pub host : IfSome r.grammar (λ g. IsHostBeside r g parts)
  pub one : length r.attributes.extensions ≡ 1

-- where expressions are of their kinds over some operations, the refusal is true beside the host
abbrev pub IsLaterBeside : (host r : ResolvedParts) → List ℕ → RecheckRefusal → Type 0
IsLaterBeside host r text refusal =
    (operations : List OperationSignature) → KindsOk r.attributes operations → IsBesideRecheckRefusal host r operations text refusal

-- the refusal is true beside each host that has this grammar with holes
abbrev pub IsFaultBeside : ResolvedParts → GrammarView → List ℕ → RecheckRefusal → Type 0
IsFaultBeside r holes text refusal =
    (host : ResolvedParts) (g : GrammarView) → host.grammar ≡ Some g → holes ≡ with_holes_of g host.extensible
    → IsLaterBeside host r text refusal

-- the host is certified, the extension is deterministic beside it, and the text is a certificate of the extension
pub record IsFoundBeside (host : CertifiedView) (r : ResolvedParts) (text : List ℕ) : Type 0 where
  pub host_certified : IsCertified host
  pub found : IsFound host.resolved r
  pub certificate : IsCertificateOfExtension r text
