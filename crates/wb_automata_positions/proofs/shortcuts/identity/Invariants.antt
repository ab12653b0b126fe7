use Rattle.wb_automata_positions.specs.Inner.Shortcuts.{AreIdentity}
use Rattle.wb_automata_positions.proofs.shortcuts.identity.Given as goal

abbrev pub invariant-places : goal.invariant-places
invariant-places l = AreIdentity l.entry.items l.i
