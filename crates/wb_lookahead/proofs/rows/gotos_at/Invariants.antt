use Rattle.wb_lookahead.specs.Inner.Rows.{GotosUpTo}
use Rattle.wb_lookahead.proofs.rows.gotos_at.Given as goal

abbrev pub invariant-moves : goal.invariant-moves
invariant-moves l = GotosUpTo l.kernels l.state l.step-items l.row.items l.step-index
