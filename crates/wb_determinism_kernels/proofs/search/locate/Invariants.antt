use Rattle.std.proofs.Common.{◌-◌}
use Rattle.wb_items.specs.KernelOrder.{LiesWithin}
use Rattle.wb_determinism_kernels.proofs.search.locate.Given as goal

abbrev pub invariant-halves : goal.invariant-halves
invariant-halves l = LiesWithin l.kernels l.order l.items l.low l.high

abbrev pub decreases-halves : goal.decreases-halves
decreases-halves l = l.high - l.low
