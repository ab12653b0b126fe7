use Rattle.std.proofs.Common.{◌-◌, ◌^◌, ◌≤◌, length}
use Rattle.wb_items.specs.Table.{AreKernelsOf, AreFollowed}
use Rattle.wb_items.proofs.table.build_table.Given as goal

abbrev pub invariant-states : goal.invariant-states
invariant-states l = record {
  kernels : AreKernelsOf l.grammar l.table.found.prefixes l.table.found.kernels;
  followed : AreFollowed l.grammar l.table.found.prefixes l.table.closures.items l.table.rows.items;
  within : length l.table.closures.items ≤ length l.table.found.kernels;
}

abbrev pub decreases-states : goal.decreases-states
decreases-states l = 2 ^ 64 - length l.table.closures.items
