use Rattle.std.proofs.Common.{◌≡◌, ◌<◌, [], arith, length, subst, sym, ℕ}
use Rattle.wb_compose_kernels.specs.Inner.Images.{AreMarkersUpTo, IsMarkerAt}
use Rattle.wb_compose_kernels.specs.Inner.Moves.{Adds}
use Rattle.wb_compose_kernels.proofs.AddLemmas.{adds_start}
use Rattle.wb_compose_kernels.proofs.ListedLemmas.{markers_more}
use Rattle.wb_compose_kernels.proofs.markers.markers_of.Goals as goal

pub parts-init : goal.parts-init
parts-init c =
    subst (Adds (λ marker. (e : ℕ) × (e < 0) × IsMarkerAt c.args.splice.now c.args.blocks.now e marker) []) (sym c.no_markers-markers.ensures)
    (adds_start (IsMarkerAt c.args.splice.now c.args.blocks.now) [])

pub parts-preserved : goal.parts-preserved
parts-preserved c =
    markers_more c.args.splice.now c.args.blocks.now c.parts.part c.parts.markers.items c.add_markers.new.markers.items c.part_at.result
    c.blocks_at.result c.starts.result.now c.part_at.ensures c.starts.ensures c.blocks_at.ensures c.in_ok-add_markers.ensures
    c.parts.invariant

pub returns : goal.returns
returns c =
    let done : c.parts.part ≡ length c.args.splice.now.parts.now = omega arith in
    subst (λ n. AreMarkersUpTo c.args.splice.now c.args.blocks.now n c.parts.markers.items) done c.parts.invariant
