use Rattle.std.proofs.Common.{◌≡◌, min, take}
use Rattle.wb_generate.specs.Counts.{total}
use Rattle.wb_generate.proofs.totals.least_total.Given as goal

abbrev pub invariant-symbols : goal.invariant-symbols
invariant-symbols l = l.sum ≡ min (total l.counts (take l.place l.symbols)) 100001
