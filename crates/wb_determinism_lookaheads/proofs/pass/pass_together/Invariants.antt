use Rattle.wb_determinism_lookaheads.specs.Inner.Spreading.{AreTrue}
use Rattle.wb_determinism_lookaheads.proofs.pass.pass_together.Given as goal

abbrev pub invariant-productions : goal.invariant-productions
invariant-productions l = AreTrue l.context l.sets.items
