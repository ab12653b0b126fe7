use Rattle.std.proofs.Common.{◌≡◌, ◌-◌}
use Rattle.wb_values.specs.Inner.Layouts.{IsListing}
use Rattle.wb_values.proofs.walk.push_backwards.Given as goal

abbrev pub invariant-children : goal.invariant-children
invariant-children l = IsListing l.nodes l.cells l.tree l.digits l.top l.at l.initial.values l.values

abbrev pub decreases-children : goal.decreases-children
decreases-children l = l.digits

abbrev pub invariant-others : goal.invariant-others
invariant-others l = record {
  none : l.digits ≡ 0;
  listing : IsListing l.nodes l.cells l.tree l.digits l.top l.at l.fn.values l.values;
}

abbrev pub decreases-others : goal.decreases-others
decreases-others l = l.end - l.at
