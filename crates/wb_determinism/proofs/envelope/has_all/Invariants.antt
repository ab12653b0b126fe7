use Rattle.std.specs.Prelude.{Contains}
use Rattle.wb_determinism.proofs.ListLemmas.{EachBefore}
use Rattle.wb_determinism.proofs.envelope.has_all.Given as goal

abbrev pub invariant-items : goal.invariant-items
invariant-items l = EachBefore (Contains l.items) l.own l.item-index
