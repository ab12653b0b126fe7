use Rattle.wb_determinism_lookaheads.specs.Inner.Spreading.{AreLifts}
use Rattle.wb_determinism_lookaheads.proofs.lifts.add_for_kernel.Given as goal

abbrev pub invariant-moves : goal.invariant-moves
invariant-moves l = AreLifts l.context l.lifts.list.items
