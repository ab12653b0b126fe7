use Rattle.wb_automata_positions.specs.Inner.Shortcuts.{AreEntries}
use Rattle.wb_automata_positions.proofs.shortcuts.entries.Given as goal

abbrev pub invariant-places : goal.invariant-places
invariant-places l = AreEntries l.places l.entry.items l.i
