use Rattle.wb_determinism_lookaheads.specs.Inner.Spreading.{IsStarted}
use Rattle.wb_determinism_lookaheads.proofs.ListLemmas.{EachBefore}
use Rattle.wb_determinism_lookaheads.proofs.test_starts.are_started.Given as goal

abbrev pub invariant-starts : goal.invariant-starts
invariant-starts l = EachBefore (IsStarted l.context l.sets) l.starts l.place
