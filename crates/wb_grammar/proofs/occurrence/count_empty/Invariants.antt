use Rattle.wb_grammar.proofs.OccurrenceLemmas.{LeadsFrom}
use Rattle.wb_grammar.proofs.occurrence.count_empty.Given as goal

abbrev pub invariant-symbols : goal.invariant-symbols
invariant-symbols l = LeadsFrom l.nullable l.symbols l.place
