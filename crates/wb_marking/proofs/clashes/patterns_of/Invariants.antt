use Rattle.std.proofs.Common.{◌≡◌, take}
use Rattle.wb_marking.specs.Inner.Patterns.{patterns_of}
use Rattle.wb_marking.proofs.clashes.patterns_of.Given as goal

abbrev pub invariant-terminals : goal.invariant-terminals
invariant-terminals l = l.all.items ≡ patterns_of (take l.terminal-index l.terminals)
