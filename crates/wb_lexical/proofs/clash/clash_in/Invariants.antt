use Rattle.wb_lexical.proofs.ClashLemmas.{IsClearBelow}
use Rattle.wb_lexical.proofs.clash.clash_in.Given as goal

abbrev pub invariant-loop-state : goal.invariant-loop-state
invariant-loop-state l = IsClearBelow l.automaton l.preferences l.state
