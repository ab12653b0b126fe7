use Rattle.std.proofs.Common.{◌≡◌, ◌++◌, ◌-◌, take}
use Rattle.wb_compose_texts.specs.Inner.Tables.{names_from}
use Rattle.wb_compose_texts.proofs.names.add_names.Given as goal

abbrev pub invariant-terminals : goal.invariant-terminals
invariant-terminals l = l.names.items ≡ l.initial.names.items ++ take (l.terminal - l.from) (names_from l.from l.resolved)
