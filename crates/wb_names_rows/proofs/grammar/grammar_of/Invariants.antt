use Rattle.std.proofs.Common.{take}
use Rattle.wb_names_rows.specs.Grammars.{IsMadeOf}
use Rattle.wb_names_rows.proofs.grammar.grammar_of.Given as goal

abbrev pub invariant-productions : goal.invariant-productions
invariant-productions l = IsMadeOf l.terminals l.nonterminals l.start (take l.production-index l.productions) l.grammar
