use Rattle.wb_automata.specs.Sharing.{ArePairsBelow}
use Rattle.wb_tests_library.proofs.common_texts.pairs_below.Given as goal

abbrev pub invariant-loop-pair : goal.invariant-loop-pair
invariant-loop-pair l = ArePairsBelow l.count l.kept.items
