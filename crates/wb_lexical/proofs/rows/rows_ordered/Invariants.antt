use Rattle.wb_lexical.specs.Inner.Rows.{AreOrderedBelow, HoldPairs}
use Rattle.wb_lexical.proofs.rows.rows_ordered.Given as goal

abbrev pub invariant-preferences : goal.invariant-preferences
invariant-preferences l = HoldPairs l.count (AreOrderedBelow l.preferences l.preference-index) l.rows.items
