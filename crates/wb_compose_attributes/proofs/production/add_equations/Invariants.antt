use Rattle.std.proofs.Common.{◌≡◌, ◌++◌, take}
use Rattle.wb_compose_attributes.specs.Inner.Written.{equations_by}
use Rattle.wb_compose_attributes.proofs.production.add_equations.Given as goal

abbrev pub invariant-rows : goal.invariant-rows
invariant-rows l = l.made.items ≡ l.initial.made.items ++ equations_by l.numbers (take l.row-index l.rows)
