use Rattle.wb_lexical.specs.Inner.Rows.{AreTogetherBelow, HoldPairs}
use Rattle.wb_lexical.proofs.rows.rows_together.Given as goal

abbrev pub invariant-sets : goal.invariant-sets
invariant-sets l = HoldPairs l.count (AreTogetherBelow l.sets l.set-index) l.rows.items
