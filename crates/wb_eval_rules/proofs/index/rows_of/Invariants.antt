use Rattle.std.proofs.Common.{take}
use Rattle.wb_eval_rules.specs.Indexes.{AreIndexes}
use Rattle.wb_eval_rules.proofs.index.rows_of.Given as goal

abbrev pub invariant-productions : goal.invariant-productions
invariant-productions l = AreIndexes (take l.production-index l.productions) l.rows.items
