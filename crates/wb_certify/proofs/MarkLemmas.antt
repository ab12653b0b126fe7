-- Reasons why markers are refused are ones why an extension isn't deterministic beside its host, in the order of the tests.
use Rattle.std.proofs.Common.{◌≡◌, inl, inr}
use Rattle.std.specs.Prelude.{IfSome}
use Rattle.wb_base.specs.Grammar.{GrammarView}
use Rattle.wb_certify_host.specs.DeterministicHosts.{AreAcyclic}
use Rattle.wb_certify_host.specs.determinism_refusal.DeterminismRefusal.{DeterminismRefusal}
use Rattle.wb_certify_host.specs.determinism_refusal.DeterminismRefusal.TheVariants as d
use Rattle.wb_determinism_beside.specs.ExtensionDeterminism.{IsExtensionRefusal}
use Rattle.wb_marking.specs.Clashes.{HasNoMarkerClash}
use Rattle.wb_marking.specs.Refusals.{IsBridgeRefusal, IsClashRefusal, IsNoMemory}
use Rattle.wb_marking.specs.declared.refusal.MarkRefusal.{MarkRefusal}
use Rattle.wb_syntax_resolved.specs.declared.resolved.ResolvedParts.{ResolvedParts}
use Rattle.wb_certify.specs.Extensions.{AreMarkersKept}
use Rattle.wb_certify.specs.Refusals.{IsReason}
use Rattle.wb_certify.specs.Tests.{IsMarkReason, KeepMarkers}
use Rattle.wb_certify.specs.Inner.Tests.{HaveBridges}
use Rattle.wb_certify.proofs.BesideLemmas.{with_some}

module _ (r : ResolvedParts) where
  -- a rule on bridges that fails
  pub bridge_refused : (refusal : MarkRefusal) → ¬ IsNoMemory refusal → IfSome r.grammar (λ g. IsBridgeRefusal r g refusal)
      → IsMarkReason r (d.Markers refusal)
  bridge_refused refusal other refused g host start =
      (inl (with_some r.grammar (λ k. IsBridgeRefusal r k refusal) refused g start), other)

  -- a marker that clashes
  pub clash_refused : (refusal : MarkRefusal) → ¬ IsNoMemory refusal → HaveBridges r → AreAcyclic r → IsClashRefusal r refusal
      → IsMarkReason r (d.Markers refusal)
  clash_refused refusal other bridges acyclic refused g host start = (inr (bridges g start, acyclic, refused), other)

  -- markers that pass both tests
  pub markers_kept : HaveBridges r → HasNoMarkerClash r → KeepMarkers r
  markers_kept bridges clashes g start = record { bridges = bridges g start; clashes = clashes }

  -- a reason after markers
  pub later_reason : (g host : GrammarView) (refusal : DeterminismRefusal) → AreMarkersKept r g → IsExtensionRefusal r g host refusal
      → IsReason r g host refusal
  later_reason g host (d.Markers m) kept true_one = absurd true_one
  later_reason g host (d.PreferenceCycle cycle) kept true_one = (kept.bridges, true_one)
  later_reason g host (d.NotReduced reason) kept true_one = (kept, true_one)
  later_reason g host (d.UnitCycle list) kept true_one = (kept, true_one)
  later_reason g host (d.HiddenLeftRecursion list) kept true_one = (kept, true_one)
  later_reason g host (d.Conflict prefix terminal first second) kept true_one = (kept, true_one)
  later_reason g host (d.Clash prefix left right text) kept true_one = (kept, true_one)
  later_reason g host (d.Lookahead prefix item terminal) kept true_one = (kept, true_one)
  later_reason g host (d.Envelope prefix fault) kept true_one = (kept, true_one)
  later_reason g host (d.NoMemory error) kept true_one = tt
