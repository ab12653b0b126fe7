use Rattle.wb_lookahead.specs.Inner.Spreading.{AreSound, AreWaiting, work_left}
use Rattle.wb_lookahead.proofs.plain.propagate.Given as goal

abbrev pub invariant-waiting : goal.invariant-waiting
invariant-waiting l = record {
  sound : AreSound l.context.kernels.now l.lookaheads l.worklist;
  waiting : AreWaiting l.context.kernels.now l.lookaheads l.worklist;
}

abbrev pub decreases-waiting : goal.decreases-waiting
decreases-waiting l = work_left l.lookaheads l.worklist
