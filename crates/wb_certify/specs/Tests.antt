-- What the tests of markers and of attributes of a host with an extension tell.
use Rattle.std.specs.Prelude.{◌≡◌, ℕ, Some, Option}
use Rattle.wb_flow_theory.specs.Modular.{ForwardEquationsReach}
use Rattle.wb_base.specs.Grammar.{GrammarView}
use Rattle.wb_certify_host.specs.Refusals.{IsAttributeMemory, start_of}
use Rattle.wb_certify_host.specs.declared.refusal.CertifyRefusal.{CertifyRefusal}
use Rattle.wb_certify_host.specs.declared.refusal.CertifyRefusal.TheVariants as c
use Rattle.wb_complete.specs.Refusals.{CompleteOk}
use Rattle.wb_certify_host.specs.determinism_refusal.DeterminismRefusal.{DeterminismRefusal}
use Rattle.wb_flow.specs.Refusals.{FlowsOk}
use Rattle.wb_syntax_resolved.specs.declared.attribution.AttributionParts.{AttributionParts}
use Rattle.wb_syntax_resolved.specs.declared.resolved.ResolvedParts.{ResolvedParts}
use Rattle.wb_certify.specs.Extensions.{AreMarkersKept}
use Rattle.wb_certify.specs.Refusals.{IsAttributeRefusal, IsReason}

-- markers keep their rules in the grammar
abbrev pub KeepMarkers : ResolvedParts → Type 0
KeepMarkers r = (g : GrammarView) → r.grammar ≡ Some g → AreMarkersKept r g

-- the reason is true, whatever the host
abbrev pub IsMarkReason : ResolvedParts → DeterminismRefusal → Type 0
IsMarkReason r refusal = (g host : GrammarView) → r.grammar ≡ Some g → IsReason r g host refusal

-- attributes are complete as an extension's, keep to their flow types, and so do equations for forwarded trees
pub record AttributesOk (a : AttributionParts) (start : Option ℕ) : Type 0 where
  pub complete : CompleteOk a start (Some 1)
  pub flows : FlowsOk a
  pub forwards : ForwardEquationsReach a 1

-- a rule of attributes fails for this reason; out of memory says nothing and is in no other reason
abbrev pub IsAttributesReason : ResolvedParts → CertifyRefusal → Type 0
IsAttributesReason r (c.Attributes refusal) = IsAttributeRefusal r.attributes (start_of r) refusal × ¬ IsAttributeMemory refusal
IsAttributesReason r (c.NoMemory error) = Unit {0}
IsAttributesReason r other = ⊥
