use Rattle.wb_determinism_lookaheads.specs.Inner.Spreading.{LiftedUpTo}
use Rattle.wb_determinism_lookaheads.proofs.lifted.lifted.Given as goal

abbrev pub invariant-terminals : goal.invariant-terminals
invariant-terminals l = LiftedUpTo l.context l.set l.lifted l.terminal
