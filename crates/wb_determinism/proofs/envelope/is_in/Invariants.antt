use Rattle.std.proofs.Common.{◌≢◌}
use Rattle.wb_determinism.proofs.ListLemmas.{EachBefore}
use Rattle.wb_determinism.proofs.envelope.is_in.Given as goal

abbrev pub invariant-items : goal.invariant-items
invariant-items l = EachBefore (λ other. other ≢ l.item) l.items l.other-index
