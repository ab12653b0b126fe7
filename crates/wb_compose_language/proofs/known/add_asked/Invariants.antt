use Rattle.std.proofs.Common.{length}
use Rattle.wb_automata.specs.Sharing.{ArePairsBelow}
use Rattle.wb_compose_language.proofs.known.add_asked.Given as goal

abbrev pub invariant-others : goal.invariant-others
invariant-others l = ArePairsBelow (length l.owns.patterns.items) l.pairs.items
