use Rattle.std.proofs.Common.{◌≡◌, replicate}
use Rattle.wb_generate.proofs.counts.limits.Given as goal

abbrev pub invariant-many : goal.invariant-many
invariant-many l = l.counts.items ≡ replicate l.counter 100001
