use Rattle.std.proofs.Common.{length}
use Rattle.wb_automata.specs.Sharing.{ArePairsBelow}
use Rattle.wb_compose_language.proofs.known.asked_pairs.Given as goal

abbrev pub invariant-markers : goal.invariant-markers
invariant-markers l = ArePairsBelow (length l.owns.patterns.items) l.pairs.items
