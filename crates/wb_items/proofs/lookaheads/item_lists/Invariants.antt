use Rattle.std.proofs.Common.{◌≡◌, take}
use Rattle.wb_items.proofs.lookaheads.item_lists.Given as goal

abbrev pub invariant-states : goal.invariant-states
invariant-states l = l.lists.items ≡ take l.state l.kernels.closures
