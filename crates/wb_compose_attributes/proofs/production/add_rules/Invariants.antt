use Rattle.std.proofs.Common.{◌≡◌, map, take}
use Rattle.wb_compose_theory_lists.specs.Joined.{numbered}
use Rattle.wb_compose_theory_grammar.specs.Places.{total_of}
use Rattle.wb_compose_attributes.specs.Inner.Filled.{AreRules}
use Rattle.wb_compose_attributes.specs.Inner.Written.{each_written, size_on}
use Rattle.wb_compose_attributes.proofs.production.add_rules.Given as goal

abbrev pub invariant-placed : goal.invariant-placed
invariant-placed l =
    (l.before ≡ total_of (map (size_on l.writers) (take l.extension-index l.writers.placed.now))) ×
    AreRules l.numbers l.writers.on.row.now (numbered (each_written l.writers) 0 (take l.extension-index l.writers.placed.now)) l.rules
