use Rattle.std.proofs.Common.{◌≡◌, ◌++◌, ◌-◌, drop, take}
use Rattle.wb_compose_texts.specs.UnionMarkers.{grammar_markers}
use Rattle.wb_compose_texts.proofs.markers.add_flags.Given as goal

abbrev pub invariant-terminals : goal.invariant-terminals
invariant-terminals l =
    l.flags.items ≡ l.initial.flags.items ++ take (l.terminal - l.from) (drop l.from (grammar_markers l.resolved))
