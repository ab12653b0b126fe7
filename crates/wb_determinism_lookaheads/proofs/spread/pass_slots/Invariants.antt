use Rattle.wb_determinism_lookaheads.specs.Inner.Spreading.{AreTrue}
use Rattle.wb_determinism_lookaheads.proofs.spread.pass_slots.Given as goal

abbrev pub invariant-slots : goal.invariant-slots
invariant-slots l = AreTrue l.context l.sets.items
