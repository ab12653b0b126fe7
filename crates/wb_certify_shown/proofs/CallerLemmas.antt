-- Every reason for which an extension isn't deterministic with its host is shown, but out of memory.
use Rattle.std.proofs.Common.{◌≡◌, None, Some}
use Rattle.wb_certify_host.specs.DeterminismRefusals.{IsNoMemory}
use Rattle.wb_certify_host.specs.determinism_refusal.DeterminismRefusal.{DeterminismRefusal}
use Rattle.wb_certify_host.specs.determinism_refusal.DeterminismRefusal.TheVariants as d
use Rattle.wb_marking.specs.Refusals as M
use Rattle.wb_marking.specs.declared.refusal.MarkRefusal.{MarkRefusal}
use Rattle.wb_marking.specs.declared.refusal.MarkRefusal.TheVariants as m
use Rattle.wb_syntax_resolved.specs.declared.resolved.ResolvedParts.{ResolvedParts}
use Rattle.wb_certify_shown.specs.Extensions.{determinism_shown}

-- what is shown isn't none
some_none : {X : Type 0} {x : X} → Some x ≡ None → ⊥
some_none e = cc

-- a reason for which markers are refused is shown, but out of memory
marker_shown : (r : ResolvedParts) (refusal : MarkRefusal) → ¬ M.IsNoMemory refusal → determinism_shown r (d.Markers refusal) ≡ None → ⊥
marker_shown r (m.NotBridge production) other is = some_none is
marker_shown r (m.MarkerElsewhere marker) other is = some_none is
marker_shown r (m.NotExtensible production) other is = some_none is
marker_shown r (m.MarkerClash marker terminal text) other is = some_none is
marker_shown r (m.NoMemory error) other is = other tt

-- a reason that isn't out of memory is shown
pub reason_shown : (r : ResolvedParts) (refusal : DeterminismRefusal) → ¬ IsNoMemory refusal → determinism_shown r refusal ≡ None → ⊥
reason_shown r (d.Markers refusal) other is = marker_shown r refusal other is
reason_shown r (d.PreferenceCycle list) other is = some_none is
reason_shown r (d.NotReduced reason) other is = some_none is
reason_shown r (d.UnitCycle list) other is = some_none is
reason_shown r (d.HiddenLeftRecursion list) other is = some_none is
reason_shown r (d.Conflict prefix terminal first second) other is = some_none is
reason_shown r (d.Clash prefix left right text) other is = some_none is
reason_shown r (d.Lookahead prefix item terminal) other is = some_none is
reason_shown r (d.Envelope prefix fault) other is = some_none is
reason_shown r (d.NoMemory error) other is = other tt
