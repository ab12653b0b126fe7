use Rattle.std.proofs.Common.{◌≡◌, map, take}
use Rattle.wb_certify_shown.specs.Names.{terminal_shown}
use Rattle.wb_certify_shown.proofs.grammar.terminal_names.Given as goal

abbrev pub invariant-numbers : goal.invariant-numbers
invariant-numbers l = l.made.items ≡ map (terminal_shown l.resolved) (take l.number-index l.numbers)
