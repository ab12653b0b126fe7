-- What each private test asks and tells of the specification of a host with an extension.
use Rattle.std.specs.Prelude.{◌≡◌, List, [], Some}
use Rattle.wb_base.specs.Grammar.{GrammarView}
use Rattle.wb_certify_host.specs.Hosts.{CertifiedView, IsCertified}
use Rattle.wb_certify_host.specs.declared.refusal.CertifyRefusal.{CertifyRefusal}
use Rattle.wb_certify_host.specs.DeterministicHosts.{AreHostParts, IsDeterministicHost}
use Rattle.wb_certify_host.specs.parts.HostParts.{HostParts}
use Rattle.wb_certify_host.specs.determinism_refusal.DeterminismRefusal.{DeterminismRefusal}
use Rattle.wb_certify_host.specs.determinism_refusal.DeterminismRefusal.TheVariants as d
use Rattle.wb_marking.specs.Bridges.{AreBridges}
use Rattle.wb_certify_host.specs.Resolving.{ResolvesExtension}
use Rattle.wb_operations.specs.Operations.{OperationSignature}
use Rattle.wb_syntax.specs.SpecText.{SpecView}
use Rattle.wb_syntax_resolved.specs.declared.resolved.ResolvedParts.{ResolvedParts}
use Rattle.wb_syntax_resolved.specs.Resolved.{IsResolved}
use Rattle.wb_types.specs.Rules.{KindsOk}
use Rattle.wb_certify.specs.Extensions.{IsCertifiedBeside}
use Rattle.wb_certify.specs.Refusals.{IsBesideRefusal, IsReason}
use Rattle.wb_certify.specs.Beside.{IsFound}

-- the rules on bridges hold in the grammar
abbrev pub HaveBridges : ResolvedParts → Type 0
HaveBridges r = (g : GrammarView) → r.grammar ≡ Some g → AreBridges r g

-- the reason is true beside this host's grammar with holes
abbrev pub IsReasonBeside : ResolvedParts → GrammarView → DeterminismRefusal → Type 0
IsReasonBeside r host refusal = (g : GrammarView) → r.grammar ≡ Some g → IsReason r g host refusal

-- memory ran out, not while markers were tested
abbrev pub IsPlainMemory : DeterminismRefusal → Type 0
IsPlainMemory (d.NoMemory error) = Unit {0}
IsPlainMemory other = ⊥

-- the parts are those of a host, which is deterministic, and of which this is the specification with some extension whose names are right
pub record IsOfHost (r : ResolvedParts) (parts : HostParts) : Type 0 where
  pub host : ResolvedParts
  pub host_grammar : GrammarView
  pub host_whole : IsResolved host
  pub whole : IsResolved r
  pub host_start : host.grammar ≡ Some host_grammar
  pub alone : host.attributes.extensions ≡ []
  pub deterministic : IsDeterministicHost host host_grammar
  pub of_host : AreHostParts host host_grammar parts
  pub spec : SpecView
  pub names : ResolvesExtension host spec r

-- the host is certified, and the extension is deterministic beside it
pub record IsMade (host : CertifiedView) (r : ResolvedParts) : Type 0 where
  pub host_certified : IsCertified host
  pub found : IsFound host.resolved r

-- the host is certified, and the extension is certified beside it
pub record IsMadeCertified (host : CertifiedView) (r : ResolvedParts) (operations : List OperationSignature) : Type 0 where
  pub host_certified : IsCertified host
  pub certified : IsCertifiedBeside host.resolved r operations

-- where expressions are of their kinds over some operations, the refusal is true
abbrev pub IsLaterRefusal : (host r : ResolvedParts) → CertifyRefusal → Type 0
IsLaterRefusal host r refusal = (operations : List OperationSignature) → KindsOk r.attributes operations
    → IsBesideRefusal host r operations refusal
