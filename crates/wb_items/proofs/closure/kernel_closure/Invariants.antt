use Rattle.std.proofs.Common.{◌-◌, ◌^◌}
use Rattle.wb_items.specs.Inner.Closing.{IsClosing}
use Rattle.wb_items.proofs.closure.kernel_closure.Given as goal

abbrev pub invariant-places : goal.invariant-places
invariant-places l = IsClosing l.grammar l.kernel l.opened l.closure.items l.place

abbrev pub decreases-places : goal.decreases-places
decreases-places l = 2 ^ 64 - l.place
