use Rattle.wb_regex.specs.declared.node.RegexNode.TheVariants.{Set}
use Rattle.wb_automata_positions.specs.Inner.ClassPasses.{KeepsClasses}
use Rattle.wb_automata_positions.proofs.classes.are_kept_by.Given as goal

abbrev pub invariant-loop-b : goal.invariant-loop-b
invariant-loop-b l = KeepsClasses (Set l.words) l.classes l.firsts l.b
