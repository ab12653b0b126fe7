use Rattle.wb_items.specs.Inner.Searches.{AgreeUpTo}
use Rattle.wb_items.proofs.compare.compare_any.Given as goal

abbrev pub invariant-places : goal.invariant-places
invariant-places l = AgreeUpTo l.kernel l.items l.place
