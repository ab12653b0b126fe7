use Rattle.wb_determinism_lookaheads.specs.Inner.Spreading.{AreTrue}
use Rattle.wb_determinism_lookaheads.proofs.brought.begin_at.Given as goal

abbrev pub invariant-items : goal.invariant-items
invariant-items l = AreTrue l.context l.sets.items
