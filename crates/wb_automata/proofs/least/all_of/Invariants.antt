use Rattle.wb_automata.proofs.LeastLemmas.{AllBelow}
use Rattle.wb_automata.proofs.least.all_of.Given as goal

abbrev pub invariant-loop-number : goal.invariant-loop-number
invariant-loop-number l = AllBelow l.set l.count l.number
