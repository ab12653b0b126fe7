use Rattle.wb_automata_positions.specs.Inner.Shortcuts.{AreRetargeted}
use Rattle.wb_automata_positions.proofs.shortcuts.retarget.Given as goal

abbrev pub invariant-places : goal.invariant-places
invariant-places l = AreRetargeted l.fn.places.items l.entry l.places.items l.i
