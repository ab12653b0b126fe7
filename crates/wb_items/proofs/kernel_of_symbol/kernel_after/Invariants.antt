use Rattle.wb_items.specs.Inner.Advances.{items_of}
use Rattle.wb_items.specs.Sorted.{StrictUpTo}
use Rattle.wb_items.proofs.kernel_of_symbol.kernel_after.Given as goal

abbrev pub invariant-places : goal.invariant-places
invariant-places l = StrictUpTo (items_of l.run) l.kernel.items l.place
