use Rattle.std.proofs.Common.{◌≡◌, false, replicate}
use Rattle.wb_determinism_lookaheads.proofs.row.Row.new.Given as goal

abbrev pub invariant-sets : goal.invariant-sets
invariant-sets l = l.sets.items ≡ replicate l._set (replicate l.width false)
