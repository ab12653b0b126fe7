use Rattle.std.proofs.Common.{drop}
use Rattle.wb_lookahead.specs.Inner.Rests.{BeginsSoFar}
use Rattle.wb_recheck_writer.proofs.first_after.first_after.Given as goal

abbrev pub invariant-symbols : goal.invariant-symbols
invariant-symbols l = BeginsSoFar l.grammar l.symbols l.set (drop l.symbol-index l.symbols)
