use Rattle.wb_determinism_kernels.specs.Inner.Advances.{AdvancesUpTo}
use Rattle.wb_determinism_kernels.proofs.advance.advances.Given as goal

abbrev pub invariant-places : goal.invariant-places
invariant-places l = AdvancesUpTo l.grammar l.closure l.list.items l.place
