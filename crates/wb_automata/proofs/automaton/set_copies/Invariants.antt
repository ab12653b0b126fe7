use Rattle.std.proofs.Common.{◌≡◌, take}
use Rattle.wb_automata.proofs.automaton.set_copies.Given as goal

abbrev pub invariant-loop-set : goal.invariant-loop-set
invariant-loop-set l = l.kept.items ≡ take l.set-index l.sets
