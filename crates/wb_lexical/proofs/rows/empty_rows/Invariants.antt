use Rattle.std.proofs.Common.{◌≡◌, replicate, false}
use Rattle.wb_lexical.proofs.rows.empty_rows.Given as goal

abbrev pub invariant-rows : goal.invariant-rows
invariant-rows l = l.rows.items ≡ replicate l._row (replicate l.count false)
