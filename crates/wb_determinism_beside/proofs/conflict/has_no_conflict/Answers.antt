use Rattle.std.proofs.Common.{arith, below_more}
use Rattle.wb_determinism_beside.proofs.conflict.has_no_conflict.Goals as goal

pub items-preserved : goal.items-preserved
items-preserved c = below_more _ _ c.items.invariant (c.is_apart.ensures c.if-not-is_apart.false)

pub returns : goal.returns
returns c = λ _ p low. c.items.invariant p (omega (arith, low, c.items-test.false))
