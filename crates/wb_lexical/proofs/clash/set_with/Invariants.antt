use Rattle.wb_lexical.specs.Inner.Rows.{AreTogetherBelow}
use Rattle.wb_lexical.proofs.clash.set_with.Given as goal

abbrev pub invariant-sets : goal.invariant-sets
invariant-sets l = ¬ AreTogetherBelow l.sets l.set l.left l.right
