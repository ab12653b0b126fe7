use Rattle.std.proofs.Common.{◌≡◌, ◌++◌, take}
use Rattle.wb_compose_attributes.specs.Inner.Gathered.{occurrences_by}
use Rattle.wb_compose_attributes.proofs.rows.add_occurrences.Given as goal

abbrev pub invariant-rows : goal.invariant-rows
invariant-rows l = l.made.items ≡ l.initial.made.items ++ occurrences_by l.numbers (take l.row-index l.rows)
