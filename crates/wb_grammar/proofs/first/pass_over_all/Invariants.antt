use Rattle.wb_grammar.proofs.FirstLemmas.{FirstPass}
use Rattle.wb_grammar.proofs.first.pass_over_all.Given as goal

abbrev pub invariant-productions : goal.invariant-productions
invariant-productions l = FirstPass l.grammar l.nullable l.fn.sets l.sets l.production l.grew
