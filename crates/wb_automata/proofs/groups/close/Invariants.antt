use Rattle.std.proofs.Common.{◌-◌, ◌^◌}
use Rattle.wb_automata.specs.Inner.Pairs.{Closes}
use Rattle.wb_automata.proofs.groups.close.Given as goal

abbrev pub invariant-pairs : goal.invariant-pairs
invariant-pairs l = Closes l.places l.fn.met l.fn.next l.met l.next l.i

abbrev pub decreases-pairs : goal.decreases-pairs
decreases-pairs l = 2 ^ 64 - l.i
