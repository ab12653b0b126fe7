use Rattle.std.proofs.Common.{map, take}
use Rattle.wb_compose_language.specs.Additions.{grammar_in}
use Rattle.wb_compose_language.specs.Inner.Totals.{AreTotals}
use Rattle.wb_compose_language.proofs.grammar.totals_of.Given as goal

abbrev pub invariant-extensions : goal.invariant-extensions
invariant-extensions l = AreTotals l.host (map grammar_in (take l.extension-index l.extensions)) l.terminals l.nonterminals
