use Rattle.std.proofs.Common.{◌≡◌, ◌++◌, take}
use Rattle.wb_compose_attributes.specs.Inner.Gathered.{own_productions}
use Rattle.wb_compose_attributes.proofs.productions.add_own.Given as goal

abbrev pub invariant-rows : goal.invariant-rows
invariant-rows l = l.made.items ≡ l.initial.made.items ++ own_productions l.numbers (take l.row-index l.rows)
