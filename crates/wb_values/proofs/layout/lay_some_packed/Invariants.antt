use Rattle.std.proofs.Common.{◌≤◌, length, drop, reverse}
use Rattle.wb_values.specs.Inner.Layouts.{IsLayout}
use Rattle.wb_values.proofs.layout.lay_some_packed.Given as goal

abbrev pub invariant-children : goal.invariant-children
invariant-children l = record {
  from : l.start ≤ l.place;
  to : l.place ≤ length l.values;
  laid : IsLayout l.nodes l.initial.cells l.cells (reverse (drop l.place l.values)) l.layout;
}

abbrev pub decreases-children : goal.decreases-children
decreases-children l = l.place
