use Rattle.wb_items.specs.Sorted.{StrictUpTo}
use Rattle.wb_items.proofs.closure.deduplicated.Given as goal

abbrev pub invariant-places : goal.invariant-places
invariant-places l = StrictUpTo l.items l.list.items l.place
