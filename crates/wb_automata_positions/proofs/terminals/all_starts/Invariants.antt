use Rattle.wb_automata_positions.specs.Inner.Starts.{AreStarts}
use Rattle.wb_automata_positions.proofs.terminals.all_starts.Given as goal

abbrev pub invariant-loop-set : goal.invariant-loop-set
invariant-loop-set l = AreStarts l.n l.count l.sets l.starts l.set-index
