use Rattle.wb_determinism_lookaheads.specs.Inner.Spreading.{AreTrue}
use Rattle.wb_determinism_lookaheads.proofs.brought.begin.Given as goal

abbrev pub invariant-starts : goal.invariant-starts
invariant-starts l = AreTrue l.context l.sets.items
