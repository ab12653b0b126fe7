use Rattle.wb_grammar.proofs.TogetherLemmas.{NoneBefore}
use Rattle.wb_grammar.proofs.hidden_left_recursion.first_together.Given as goal

abbrev pub invariant-edges : goal.invariant-edges
invariant-edges l = NoneBefore l.components l.edges l.above-index
