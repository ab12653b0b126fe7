use Rattle.wb_lookahead.specs.Inner.Valid.{SetsUpTo}
use Rattle.wb_lookahead.proofs.valid.are_apart.Given as goal

abbrev pub invariant-items : goal.invariant-items
invariant-items l = SetsUpTo l.kernels l.state l.item-index l.sets
