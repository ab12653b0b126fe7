use Rattle.std.proofs.Common.{◌-◌}
use Rattle.wb_items.specs.Kernels.{Precedes}
use Rattle.wb_items.proofs.HalvesLemmas.{LiesBetween}
use Rattle.wb_items.proofs.position.position.Given as goal

abbrev pub invariant-halves : goal.invariant-halves
invariant-halves l = LiesBetween (λ z. Precedes z l.item) (λ z. Precedes l.item z) l.items l.low l.high

abbrev pub decreases-halves : goal.decreases-halves
decreases-halves l = l.high - l.low
