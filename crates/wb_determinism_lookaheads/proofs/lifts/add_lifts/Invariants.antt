use Rattle.wb_determinism_lookaheads.specs.Inner.Spreading.{AreLifts}
use Rattle.wb_determinism_lookaheads.proofs.lifts.add_lifts.Given as goal

abbrev pub invariant-kernels : goal.invariant-kernels
invariant-kernels l = AreLifts l.context l.lifts.list.items
