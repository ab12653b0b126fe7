use Rattle.wb_determinism_lookaheads.specs.Inner.Spreading.{AreTrue}
use Rattle.wb_determinism_lookaheads.proofs.spread.spread.Given as goal

abbrev pub invariant-rounds : goal.invariant-rounds
invariant-rounds l = AreTrue l.context l.sets.items
