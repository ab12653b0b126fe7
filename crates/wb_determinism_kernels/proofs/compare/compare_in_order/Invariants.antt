use Rattle.wb_items.specs.Inner.Searches.{AgreeBelow}
use Rattle.wb_determinism_kernels.proofs.compare.compare_in_order.Given as goal

abbrev pub invariant-places : goal.invariant-places
invariant-places l = AgreeBelow l.kernel l.items l.place
