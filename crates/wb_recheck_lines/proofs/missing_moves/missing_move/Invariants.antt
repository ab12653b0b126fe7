use Rattle.wb_recheck_lines.specs.Inner.Walks.{AreListedUpTo}
use Rattle.wb_recheck_lines.proofs.missing_moves.missing_move.Given as goal

abbrev pub invariant-places : goal.invariant-places
invariant-places l = AreListedUpTo l.kernels l.found.states l.place
