use Rattle.wb_lexical.proofs.ClashLemmas.{NoRightBelow}
use Rattle.wb_lexical.proofs.pair.undecided_with.Given as goal

abbrev pub invariant-loop-right : goal.invariant-loop-right
invariant-loop-right l = NoRightBelow l.accepted l.preferences l.left l.right-index
