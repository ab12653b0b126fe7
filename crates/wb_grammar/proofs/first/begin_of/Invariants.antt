use Rattle.std.proofs.Common.{◌≡◌, ◌+◌, drop, length}
use Rattle.wb_grammar.proofs.FirstLemmas.{Begun}
use Rattle.wb_grammar.proofs.first.begin_of.Given as goal

abbrev pub invariant-symbols : goal.invariant-symbols
invariant-symbols l = (length l.begin ≡ l.terminals + 1) × Begun l.nullable l.sets l.symbols l.begin (drop l.symbol-index l.symbols)
