use Rattle.std.proofs.Common.{◌≡◌, ◌<◌, arith, length, subst, ℕ, Some}
use Rattle.std.specs.Prelude.{slice_get}
use Rattle.wb_determinism_kernels.specs.declared.starts.Start.{Start}
use Rattle.wb_compose_kernels.specs.Inner.Images.{IsMarkerOf}
use Rattle.wb_compose_kernels.specs.Inner.Moves.{Adds}
use Rattle.wb_compose_kernels.proofs.AddLemmas.{adds_next, adds_push, adds_start}
use Rattle.wb_compose_kernels.proofs.ListedLemmas.{marker_once}
use Rattle.wb_compose_kernels.proofs.RowLemmas.{at_place, by_places}
use Rattle.wb_compose_kernels.proofs.markers.add_markers.Goals as goal

pub starts-init : goal.starts-init
starts-init c = adds_start (λ j marker. (start : Start) × (slice_get c.args.starts.now j ≡ Some start) ×
    IsMarkerOf c.args.blocks.terminals start marker) c.args.markers.now.items

pub starts-preserved : goal.starts-preserved
starts-preserved c =
    let start = c.start_at-start.result in
    let block = c.args.blocks.terminals in
    adds_next (λ j marker. (start : Start) × (slice_get c.args.starts.now j ≡ Some start) × IsMarkerOf block start marker)
    c.starts.place c.args.markers.now.items c.starts.markers.items c.push.new.list.items c.starts.invariant
    (at_place c.args.starts.now (IsMarkerOf block) c.starts.place start c.starts.markers.items c.push.new.list.items
    c.start_at-start.ensures
    (adds_push (IsMarkerOf block start) c.starts.markers.items c.push.new.list.items c.in_ok-marker.marker c.in_ok-push.ensures.ok
    c.in_ok-marker.ensures (λ other is. marker_once block start c.in_ok-marker.marker other c.in_ok-marker.ensures is)))

pub returns : goal.returns
returns c =
    let block = c.args.blocks.terminals in
    let done : c.starts.place ≡ length c.args.starts.now = omega arith in
    by_places c.args.starts.now (IsMarkerOf block) c.args.markers.now.items c.starts.markers.items
    (subst (λ n. Adds (λ marker. (j : ℕ) × (j < n) × ((start : Start) × (slice_get c.args.starts.now j ≡ Some start) ×
    IsMarkerOf block start marker)) c.args.markers.now.items c.starts.markers.items) done c.starts.invariant)
