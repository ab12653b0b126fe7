use Rattle.std.proofs.Common.{◌≡◌, map, take}
use Rattle.wb_certify_shown.specs.Names.{nonterminal_shown}
use Rattle.wb_certify_shown.proofs.grammar.nonterminal_names.Given as goal

abbrev pub invariant-numbers : goal.invariant-numbers
invariant-numbers l = l.made.items ≡ map (nonterminal_shown l.resolved) (take l.number-index l.numbers)
