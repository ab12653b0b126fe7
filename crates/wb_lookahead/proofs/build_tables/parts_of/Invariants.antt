use Rattle.wb_lookahead.specs.Inner.Parts.{ArePartsUpTo}
use Rattle.wb_lookahead.proofs.build_tables.parts_of.Given as goal

abbrev pub invariant-kernels : goal.invariant-kernels
invariant-kernels l = ArePartsUpTo l.kernels l.parts l.state
