use Rattle.std.proofs.Common.{◌≡◌, take, map}
use Rattle.wb_syntax_resolved.specs.declared.terminal.Terminal.{Terminal}
use Rattle.wb_determinism_host.proofs.lexicon.expressions_of.Given as goal

abbrev pub invariant-terminals : goal.invariant-terminals
invariant-terminals l = l.expressions.items ≡ map (λ (t : Terminal). t.pattern) (take l.terminal-index l.terminals)
