use Rattle.wb_determinism_lookaheads.specs.Inner.Spreading.{AreTrue}
use Rattle.wb_determinism_lookaheads.proofs.spread.pass_kernel.Given as goal

abbrev pub invariant-sweeps : goal.invariant-sweeps
invariant-sweeps l = AreTrue l.context l.sets.items
