use Rattle.wb_automata_positions.specs.Inner.ClassPasses.{AreKeys}
use Rattle.wb_automata_positions.proofs.classes.keys_of.Given as goal

abbrev pub invariant-loop-b : goal.invariant-loop-b
invariant-loop-b l = AreKeys l.node l.classes l.keys.items l.b
