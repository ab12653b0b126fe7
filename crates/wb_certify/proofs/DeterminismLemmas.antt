-- What is asked of an extension whose markers keep their rules, and what the answers say of it.
use Rattle.std.proofs.Common.{◌≡◌, Some}
use Rattle.std.specs.Prelude.{IfSome}
use Rattle.wb_base.specs.Grammar.{GrammarView}
use Rattle.wb_determinism_beside.specs.DeterministicExtensions.{IsDeterministicExtension}
use Rattle.wb_determinism_beside.specs.ExtensionDeterminism.{IsExtensionRefusal}
use Rattle.wb_determinism_beside.specs.Asked.{IsAskedBeside}
use Rattle.wb_certify_host.specs.parts.HostParts.{HostParts}
use Rattle.wb_certify_host.specs.determinism_refusal.DeterminismRefusal.{DeterminismRefusal}
use Rattle.wb_certify_host.specs.determinism_refusal.DeterminismRefusal.TheVariants as d
use Rattle.wb_certify_host.specs.DeterministicHosts.{AreAcyclic}
use Rattle.wb_syntax_resolved.specs.declared.resolved.ResolvedParts.{ResolvedParts}
use Rattle.wb_certify.specs.Tests.{KeepMarkers}
use Rattle.wb_certify.specs.Inner.Tests.{IsOfHost, IsReasonBeside}
use Rattle.wb_certify.specs.Beside.{AreClearBeside}
use Rattle.wb_certify.specs.Refusals.{IsReason}
use Rattle.wb_certify.proofs.BesideLemmas.{for_some, with_some}

-- it may be asked whether it is deterministic beside the host
pub asked_beside : (r : ResolvedParts) (parts : HostParts) → IsOfHost r parts → KeepMarkers r → AreAcyclic r
    → IfSome r.grammar (λ g. IsAskedBeside r g parts)
asked_beside r parts is keeps acyclic = for_some r.grammar (λ g. IsAskedBeside r g parts) (λ g start. record {
  host = is.host;
  host_grammar = is.host_grammar;
  extended = record {
    host_resolved = is.host_whole;
    resolved = is.whole;
    host_start = is.host_start;
    start = start;
    alone = is.alone;
    spec = is.spec;
    names = is.names;
    bridges = (keeps g start).bridges;
  };
  clear = (keeps g start).clashes;
  acyclic = acyclic;
  deterministic = is.deterministic;
  of_host = is.of_host;
})

module _ (r : ResolvedParts) (host : GrammarView) (keeps : KeepMarkers r) where
  -- where it is, that is all
  pub clear_beside : IfSome r.grammar (λ g. IsDeterministicExtension r g host) → AreClearBeside r host
  clear_beside is g start = record {
    markers = keeps g start;
    deterministic = with_some r.grammar (λ g. IsDeterministicExtension r g host) is g start;
  }

  reason_of : (refusal : DeterminismRefusal) (g : GrammarView) → r.grammar ≡ Some g → IsExtensionRefusal r g host refusal
      → IsReason r g host refusal
  reason_of (d.Markers m) g start is = absurd is
  reason_of (d.PreferenceCycle cycle) g start is = ((keeps g start).bridges, is)
  reason_of (d.NotReduced which) g start is = (keeps g start, is)
  reason_of (d.UnitCycle list) g start is = (keeps g start, is)
  reason_of (d.HiddenLeftRecursion list) g start is = (keeps g start, is)
  reason_of (d.Conflict prefix terminal first second) g start is = (keeps g start, is)
  reason_of (d.Clash prefix left right text) g start is = (keeps g start, is)
  reason_of (d.Lookahead prefix item terminal) g start is = (keeps g start, is)
  reason_of (d.Envelope prefix fault) g start is = (keeps g start, is)
  reason_of (d.NoMemory error) g start is = tt

  -- where it isn't, the reason is one of both
  pub whole_reason : (refusal : DeterminismRefusal) → IfSome r.grammar (λ g. IsExtensionRefusal r g host refusal)
      → IsReasonBeside r host refusal
  whole_reason refusal is g start =
      reason_of refusal g start (with_some r.grammar (λ g. IsExtensionRefusal r g host refusal) is g start)
