use Rattle.std.proofs.Common.{map, take}
use Rattle.wb_compose_language.specs.Additions.{grammar_in}
use Rattle.wb_compose_language.specs.Inner.Totals.{AreAdded}
use Rattle.wb_compose_language.proofs.grammar.add_all.Given as goal

abbrev pub invariant-extensions : goal.invariant-extensions
invariant-extensions l = AreAdded l.host (map grammar_in (take l.extension-index l.extensions)) l.initial.made l.made l.before.terminals
    l.before.nonterminals
