use Rattle.std.proofs.Common.{◌-◌, length, suc}
use Rattle.wb_eval_rows.specs.Inner.Lists.{HasSameNumbers}
use Rattle.wb_eval_rows.proofs.rows.Rows.add_rows.Given as goal

abbrev pub invariant-rows : goal.invariant-rows
invariant-rows l = HasSameNumbers l.initial.self l.self l.row

abbrev pub decreases-rows : goal.decreases-rows
decreases-rows l = suc l.row - length l.self
