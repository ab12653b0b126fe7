use Rattle.wb_items.specs.Inner.Passes.{AdvancesUpTo}
use Rattle.wb_items.proofs.advance.advances.Given as goal

abbrev pub invariant-places : goal.invariant-places
invariant-places l = AdvancesUpTo l.grammar l.closure l.list.items l.place
