use Rattle.std.proofs.Common.{◌≡◌, take}
use Rattle.wb_automata.proofs.automaton.copies.Given as goal

abbrev pub invariant-loop-regex : goal.invariant-loop-regex
invariant-loop-regex l = l.kept.items ≡ take l.regex-index l.terminals
