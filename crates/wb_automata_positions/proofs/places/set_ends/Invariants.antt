use Rattle.std.proofs.Common.{length}
use Rattle.wb_automata_positions.specs.Inner.Machines.{AreEndsSet}
use Rattle.wb_automata_positions.proofs.places.set_ends.Given as goal

abbrev pub invariant-roots : goal.invariant-roots
invariant-roots l = AreEndsSet (length l.nodes) l.roots l.next.items l.count l.number
