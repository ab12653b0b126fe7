use Rattle.std.proofs.Common.{◌+◌, subst, sym}
use Rattle.wb_determinism.specs.Regions.{AreRegions}
use Rattle.wb_determinism.proofs.RegionLemmas.{regions_more}
use Rattle.wb_determinism.proofs.regions.regions_of.Goals as goal

pub kernels-preserved : goal.kernels-preserved
kernels-preserved c =
    let m = c.args.numbers.now in
    subst (AreRegions c.args.host.now c.args.both.now m (c.kernels.state + 1)) (sym c.in_ok-push.ensures.ok)
    (regions_more c.args.host.now c.args.both.now m c.kernels.state c.kernels.regions.items c.in_ok-region.region c.kernels.invariant
    c.in_ok-region.ensures)
