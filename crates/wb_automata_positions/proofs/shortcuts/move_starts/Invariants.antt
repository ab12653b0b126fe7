use Rattle.wb_automata_positions.specs.Inner.Shortcuts.{AreMoved}
use Rattle.wb_automata_positions.proofs.shortcuts.move_starts.Given as goal

abbrev pub invariant-starts : goal.invariant-starts
invariant-starts l = AreMoved l.fn.starts.items l.entry l.starts.items l.k
