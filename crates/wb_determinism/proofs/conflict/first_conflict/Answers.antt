use Rattle.std.proofs.Common.{arith, below_more}
use Rattle.wb_determinism.proofs.conflict.first_conflict.Goals as goal

pub items-preserved : goal.items-preserved
items-preserved c = below_more _ _ c.items.invariant c.in_default.ensures

pub returns : goal.returns
returns c p low = c.items.invariant p (omega (arith, low, c.items-test.false))
