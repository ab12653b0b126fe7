-- Why an extension isn't certified with its host: each reason with a true example, where no earlier one holds.
use Rattle.std.specs.Prelude.{◌≡◌, ◌⊎◌, ℕ, List, Some, Option}
use Rattle.wb_base.specs.Grammar.{GrammarView}
use Rattle.wb_certify_host.specs.Refusals.{IsAttributeMemory, IsNameMemory, IsTypeMemory}
use Rattle.wb_certify_host.specs.declared.refusal.CertifyRefusal.{CertifyRefusal}
use Rattle.wb_certify_host.specs.declared.refusal.CertifyRefusal.TheVariants as c
use Rattle.wb_complete.specs.Refusals.{CompleteOk, IsTrueCompletenessRefusal}
use Rattle.wb_certify_host.specs.DeterministicHosts.{AreAcyclic}
use Rattle.wb_certify_host.specs.Lexicons.{preference_pairs}
use Rattle.wb_certify_host.specs.DeterminismRefusals.{IsNoMemory}
use Rattle.wb_certify_host.specs.determinism_refusal.DeterminismRefusal.{DeterminismRefusal}
use Rattle.wb_certify_host.specs.determinism_refusal.DeterminismRefusal.TheVariants as d
use Rattle.wb_determinism_beside.specs.ExtensionDeterminism.{IsExtensionRefusal}
use Rattle.wb_flow.specs.Refusals.{FlowsOk, IsTrueFlowRefusal}
use Rattle.wb_flow.specs.declared.refusal.AttributeRefusal.{AttributeRefusal}
use Rattle.wb_complete.specs.ForwardRefusals.{IsTrueForwardRefusal}
use Rattle.wb_graph.specs.Orders.{IsSimpleCycle}
use Rattle.wb_marking_holes.specs.Holes.{with_holes_of}
use Rattle.wb_marking.specs.Bridges.{AreBridges}
use Rattle.wb_marking.specs.Refusals as marks
use Rattle.wb_marking.specs.Refusals.{IsBridgeRefusal, IsClashRefusal}
use Rattle.wb_marking.specs.declared.refusal.MarkRefusal.{MarkRefusal}
use Rattle.wb_certify_host.specs.Resolving.{IsExtensionNameRefusal, ResolvesExtension}
use Rattle.wb_operations.specs.Operations.{OperationSignature}
use Rattle.wb_syntax_resolved.specs.declared.attribution.AttributionParts.{AttributionParts}
use Rattle.wb_syntax_resolved.specs.declared.resolved.ResolvedParts.{ResolvedParts}
use Rattle.wb_syntax.specs.SpecText.{SpecView}
use Rattle.wb_types.specs.Refusals.{IsTrueRefusal}
use Rattle.wb_types.specs.Rules.{KindsOk}
use Rattle.wb_certify.specs.Extensions.{AreMarkersKept, IsDeterministicBeside}

-- markers are refused for this reason: a rule on bridges fails; or these hold, preferences form no cycle, and a marker clashes. Out of memory
-- says nothing
abbrev pub AreMarkersRefused : ResolvedParts → GrammarView → MarkRefusal → Type 0
AreMarkersRefused r g refusal = IsBridgeRefusal r g refusal ⊎ (AreBridges r g × AreAcyclic r × IsClashRefusal r refusal)

-- what is shown is an example of the first of these that holds of a host with an extension, where g is its grammar and the other that of
-- the host with holes: a rule on bridges fails; preferences form a cycle; a marker clashes; or markers keep their rules, and the extension
-- isn't deterministic beside the host. Out of memory says nothing, and is in no other reason
abbrev pub IsReason : ResolvedParts → (g host : GrammarView) → DeterminismRefusal → Type 0
IsReason r g host (d.Markers refusal) = AreMarkersRefused r g refusal × ¬ marks.IsNoMemory refusal
IsReason r g host (d.PreferenceCycle cycle) = AreBridges r g × IsSimpleCycle (preference_pairs r) cycle
IsReason r g host (d.NoMemory error) = Unit {0}
IsReason r g host refusal = AreMarkersKept r g × IsExtensionRefusal r g host refusal

-- expressions are of their kinds, and the extension isn't deterministic beside the host for this reason
pub record IsNotDeterministic (host r : ResolvedParts) (operations : List OperationSignature) (refusal : DeterminismRefusal) : Type 0 where
  pub kinds : KindsOk r.attributes operations
  pub host_grammar : GrammarView
  pub host_start : host.grammar ≡ Some host_grammar
  pub grammar : GrammarView
  pub start : r.grammar ≡ Some grammar
  pub reason : IsReason r grammar (with_holes_of host_grammar host.extensible) refusal

-- attributes aren't complete as an extension's; or they are, and don't keep to their flow types; or they do, and an equation for a
-- forwarded tree doesn't
abbrev pub IsAttributeRefusal : AttributionParts → Option ℕ → AttributeRefusal → Type 0
IsAttributeRefusal a start refusal =
    IsTrueCompletenessRefusal a start (Some 1) refusal ⊎ (CompleteOk a start (Some 1) × IsTrueFlowRefusal a refusal)
    ⊎ (CompleteOk a start (Some 1) × FlowsOk a × IsTrueForwardRefusal a 1 refusal)

-- expressions are of their kinds, the extension is deterministic beside the host, and attributes aren't well defined for this reason
pub record AreNotWellDefined (host r : ResolvedParts) (operations : List OperationSignature) (refusal : AttributeRefusal) : Type 0 where
  pub kinds : KindsOk r.attributes operations
  pub host_grammar : GrammarView
  pub host_start : host.grammar ≡ Some host_grammar
  pub grammar : GrammarView
  pub start : r.grammar ≡ Some grammar
  pub deterministic : IsDeterministicBeside host r host_grammar grammar
  pub reason : IsAttributeRefusal r.attributes (Some grammar.start) refusal

-- the refusal is true of a host with an extension; that of names isn't about one, there is always a start, and out of memory says nothing
-- and is in no other reason
abbrev pub IsBesideRefusal : (host r : ResolvedParts) → List OperationSignature → CertifyRefusal → Type 0
IsBesideRefusal host r operations (c.Names refusal) = ⊥
IsBesideRefusal host r operations (c.Types refusal) = IsTrueRefusal r.attributes operations refusal × ¬ IsTypeMemory refusal
IsBesideRefusal host r operations c.NoStart = ⊥
IsBesideRefusal host r operations (c.Determinism refusal) = IsNotDeterministic host r operations refusal × ¬ IsNoMemory refusal
IsBesideRefusal host r operations (c.Attributes refusal) = AreNotWellDefined host r operations refusal × ¬ IsAttributeMemory refusal
IsBesideRefusal host r operations (c.NoMemory error) = Unit {0}

-- the specification's names are right, and with the host the extension isn't certified for this reason
pub record IsNotCertified (host : ResolvedParts) (spec : SpecView) (operations : List OperationSignature) (refusal : CertifyRefusal) :
    Type 0 where
  pub resolved : ResolvedParts
  pub names : ResolvesExtension host spec resolved
  pub reason : IsBesideRefusal host resolved operations refusal

-- the refusal of a specification as an extension of this host is true: its names aren't right for this reason, or they are and the
-- extension isn't certified
abbrev pub IsExtensionCertifyRefusal : ResolvedParts → SpecView → List OperationSignature → CertifyRefusal → Type 0
IsExtensionCertifyRefusal host spec operations (c.Names refusal) = IsExtensionNameRefusal host spec refusal × ¬ IsNameMemory refusal
IsExtensionCertifyRefusal host spec operations (c.NoMemory error) = Unit {0}
IsExtensionCertifyRefusal host spec operations other = IsNotCertified host spec operations other

-- the refusal is that memory ran out
abbrev pub IsMemory : CertifyRefusal → Type 0
IsMemory (c.NoMemory error) = Unit {0}
IsMemory other = ⊥
