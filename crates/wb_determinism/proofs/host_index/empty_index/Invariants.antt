use Rattle.std.proofs.Common.{◌≡◌, [], replicate}
use Rattle.wb_determinism.proofs.host_index.empty_index.Given as goal

abbrev pub invariant-rows : goal.invariant-rows
invariant-rows l = l.index.items ≡ replicate l._row []
