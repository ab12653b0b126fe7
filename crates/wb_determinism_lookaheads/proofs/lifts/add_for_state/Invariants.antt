use Rattle.wb_determinism_lookaheads.specs.Inner.Spreading.{AreLifts}
use Rattle.wb_determinism_lookaheads.proofs.lifts.add_for_state.Given as goal

abbrev pub invariant-items : goal.invariant-items
invariant-items l = AreLifts l.context l.lifts.list.items
