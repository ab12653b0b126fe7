use Rattle.std.proofs.Common.{◌≡◌, false, replicate}
use Rattle.wb_flow.proofs.closing.empty_sets.Given as goal

abbrev pub invariant-sets : goal.invariant-sets
invariant-sets l = l.made.items ≡ replicate l._set (replicate l.count false)
