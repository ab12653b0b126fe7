use Rattle.std.proofs.Common.{◌-◌, ◌≤◌, length}
use Rattle.wb_items.specs.Inner.MovedKernels.{MovedUpTo}
use Rattle.wb_items.proofs.moved.moved_kernels.Given as goal

abbrev pub invariant-runs : goal.invariant-runs
invariant-runs l = record {
  moved : MovedUpTo l.list.items l.moved.items l.place;
  within : l.place ≤ length l.list.items;
}

abbrev pub decreases-runs : goal.decreases-runs
decreases-runs l = length l.list.items - l.place
