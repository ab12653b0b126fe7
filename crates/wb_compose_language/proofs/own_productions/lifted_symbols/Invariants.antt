use Rattle.std.proofs.Common.{◌≡◌, map, take}
use Rattle.wb_compose_theory.specs.Renamings.{renamed}
use Rattle.wb_compose_theory_grammar.specs.Unions.{lifted_by}
use Rattle.wb_compose_language.proofs.own_productions.lifted_symbols.Given as goal

abbrev pub invariant-symbols : goal.invariant-symbols
invariant-symbols l = l.made.items ≡ map (renamed (lifted_by l.host l.before.terminals l.before.nonterminals 0))
    (take l.symbol-index l.symbols)
