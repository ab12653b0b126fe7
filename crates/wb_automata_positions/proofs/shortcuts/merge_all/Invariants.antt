use Rattle.wb_automata_positions.specs.Inner.Shortcuts.{AreMerged}
use Rattle.wb_automata_positions.proofs.shortcuts.merge_all.Given as goal

abbrev pub invariant-places : goal.invariant-places
invariant-places l = AreMerged l.fn.places.items l.places.items l.entry.items l.i

abbrev pub decreases-places : goal.decreases-places
decreases-places l = l.i
