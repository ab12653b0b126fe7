use Rattle.wb_lookahead.specs.Inner.Valid.{AreClearUpTo}
use Rattle.wb_lookahead.proofs.valid.valid_sets.Given as goal

abbrev pub invariant-kernels : goal.invariant-kernels
invariant-kernels l = AreClearUpTo l.kernels l.sets.items l.state
