use Rattle.std.proofs.Common.{◌-◌, ◌^◌}
use Rattle.wb_automata_positions.specs.Inner.Closures.{Closes}
use Rattle.wb_automata_positions.proofs.closure.close.Given as goal

abbrev pub invariant-places : goal.invariant-places
invariant-places l = Closes l.nodes l.next l.fn.met l.met l.i

abbrev pub decreases-places : goal.decreases-places
decreases-places l = 2 ^ 64 - l.i
