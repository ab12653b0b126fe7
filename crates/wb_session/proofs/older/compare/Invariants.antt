use Rattle.wb_session.specs.Inner.Standing.{HaveStates}
use Rattle.wb_session.proofs.older.compare.Given as goal

abbrev pub invariant-roots : goal.invariant-roots
invariant-roots l = record {
  so_far : HaveStates l.entries l.one l.others l.two → HaveStates l.entries l.link l.others l.other;
}

abbrev pub decreases-roots : goal.decreases-roots
decreases-roots l = l.one
