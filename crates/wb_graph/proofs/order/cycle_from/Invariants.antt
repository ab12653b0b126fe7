use Rattle.std.proofs.Common.{◌≡◌, ◌≤◌, ◌-◌, ℕ, Some, length, slice_get}
use Rattle.wb_graph.proofs.order.cycle_from.Given as goal

abbrev pub invariant-places : goal.invariant-places
invariant-places l = (i : ℕ) → slice_get l.path i ≡ Some l.vertex → l.start ≤ i

abbrev pub decreases-places : goal.decreases-places
decreases-places l = length l.path - l.start
