use Rattle.std.proofs.Common.{◌≡◌, ◌++◌, take}
use Rattle.wb_compose_attributes.specs.Inner.Written.{locals_by}
use Rattle.wb_compose_attributes.proofs.production.add_locals.Given as goal

abbrev pub invariant-rows : goal.invariant-rows
invariant-rows l = l.made.items ≡ l.initial.made.items ++ locals_by l.numbers (take l.row-index l.rows)
