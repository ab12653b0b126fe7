use Rattle.wb_determinism.specs.Inner.Conflicts.{AreTaken}
use Rattle.wb_determinism.proofs.apart.take_all.Given as goal

abbrev pub invariant-items : goal.invariant-items
invariant-items l = AreTaken l.grammar l.fn.taken l.row l.looks-index l.taken
