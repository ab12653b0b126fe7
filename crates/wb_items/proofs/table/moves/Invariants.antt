use Rattle.std.proofs.Common.{◌-◌, ◌≤◌, length}
use Rattle.wb_items.specs.Inner.Passes.{MovesUpTo}
use Rattle.wb_items.proofs.table.moves.Given as goal

abbrev pub invariant-runs : goal.invariant-runs
invariant-runs l = record {
  moves : MovesUpTo l.grammar l.fn.found l.found l.list.items l.state l.row.items l.place;
  within : l.place ≤ length l.list.items;
}

abbrev pub decreases-runs : goal.decreases-runs
decreases-runs l = length l.list.items - l.place
