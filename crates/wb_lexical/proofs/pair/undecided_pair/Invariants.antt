use Rattle.wb_lexical.proofs.ClashLemmas.{NoLeftBelow}
use Rattle.wb_lexical.proofs.pair.undecided_pair.Given as goal

abbrev pub invariant-loop-left : goal.invariant-loop-left
invariant-loop-left l = NoLeftBelow l.accepted l.preferences l.left-index
