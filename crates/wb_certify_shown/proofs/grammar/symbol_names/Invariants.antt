use Rattle.std.proofs.Common.{◌≡◌, map, take}
use Rattle.wb_certify_shown.specs.Names.{symbol_shown}
use Rattle.wb_certify_shown.proofs.grammar.symbol_names.Given as goal

abbrev pub invariant-symbols : goal.invariant-symbols
invariant-symbols l = l.made.items ≡ map (symbol_shown l.resolved) (take l.symbol-index l.symbols)
