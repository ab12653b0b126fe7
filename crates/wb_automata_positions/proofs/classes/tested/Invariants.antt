use Rattle.wb_automata_positions.specs.Classes.{AreClasses}
use Rattle.wb_automata_positions.proofs.classes.tested.Given as goal

abbrev pub invariant-loop-i : goal.invariant-loop-i
invariant-loop-i l = AreClasses l.nodes l.classes.of.items l.classes.firsts.items l.i
