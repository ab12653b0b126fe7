use Rattle.wb_automata_positions.specs.Inner.Concatenated.{AreConcatenated}
use Rattle.wb_automata_positions.proofs.concatenated.concatenate.Given as goal

abbrev pub invariant-loop-regex : goal.invariant-loop-regex
invariant-loop-regex l = AreConcatenated l.terminals l.nodes.items l.roots.items l.regex-index
