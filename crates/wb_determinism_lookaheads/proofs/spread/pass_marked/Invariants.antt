use Rattle.wb_determinism_lookaheads.specs.Inner.Spreading.{AreTrue}
use Rattle.wb_determinism_lookaheads.proofs.spread.pass_marked.Given as goal

abbrev pub invariant-kernels : goal.invariant-kernels
invariant-kernels l = AreTrue l.context l.sets.items
