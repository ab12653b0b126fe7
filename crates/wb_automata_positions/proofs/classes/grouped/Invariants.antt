use Rattle.wb_automata_positions.specs.Inner.ClassPasses.{ClassPass}
use Rattle.wb_automata_positions.proofs.classes.grouped.Given as goal

abbrev pub invariant-loop-b : goal.invariant-loop-b
invariant-loop-b l = ClassPass l.keys l.of.items l.firsts.items l.b
