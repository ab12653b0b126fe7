use Rattle.wb_grammar.proofs.EdgeLemmas.{EdgesBefore}
use Rattle.wb_grammar.proofs.edges.edges.Given as goal

abbrev pub invariant-productions : goal.invariant-productions
invariant-productions l = EdgesBefore l.occurrence l.grammar l.nullable l.edges.items l.production
