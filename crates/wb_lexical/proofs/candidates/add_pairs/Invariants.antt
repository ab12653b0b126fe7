use Rattle.std.proofs.Common.{◌-◌, ◌<◌, length}
use Rattle.wb_lexical.specs.Inner.Candidates.{Lists}
use Rattle.wb_lexical.proofs.CandidateLemmas.{PairsBelow}
use Rattle.wb_lexical.proofs.candidates.add_pairs.Given as goal

abbrev pub invariant-members : goal.invariant-members
invariant-members l = record {
  above : l.left < l.from;
  lists : Lists (PairsBelow l.compared l.left l.from) l.fn.pairs.items l.pairs.items;
}

abbrev pub decreases-members : goal.decreases-members
decreases-members l = length l.row - l.from
