use Rattle.wb_lookahead.specs.Inner.KernelRows.{KernelRowUpTo}
use Rattle.wb_lookahead.proofs.rows.row_at.Given as goal

abbrev pub invariant-items : goal.invariant-items
invariant-items l = KernelRowUpTo l.kernels l.state l.row l.item-index
