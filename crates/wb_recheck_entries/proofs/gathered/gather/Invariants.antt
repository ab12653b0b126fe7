use Rattle.wb_recheck_entries.specs.Inner.Gathering.{AreGathered}
use Rattle.wb_recheck_entries.proofs.gathered.gather.Given as goal

abbrev pub invariant-entries : goal.invariant-entries
invariant-entries l = AreGathered l.reference.kernels.now l.reference.found.now.states l.entries l.lookaheads l.place
