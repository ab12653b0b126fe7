use Rattle.wb_automata.specs.Inner.LeastStates.{AreApartBelow}
use Rattle.wb_automata.proofs.least.first_accepting.Given as goal

abbrev pub invariant-loop-state : goal.invariant-loop-state
invariant-loop-state l = AreApartBelow l.automaton l.terminal l.state
