use Rattle.wb_automata_positions.specs.Inner.Machines.{AreListed}
use Rattle.wb_automata_positions.proofs.places.list_places.Given as goal

abbrev pub invariant-places : goal.invariant-places
invariant-places l = AreListed l.nodes l.next l.places.items l.i
