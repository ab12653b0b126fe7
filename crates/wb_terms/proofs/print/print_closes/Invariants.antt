use Rattle.std.proofs.Common.{◌≡◌, ◌++◌}
use Rattle.wb_terms.specs.Inner.Pending.{closing}
use Rattle.wb_terms.proofs.print.print_closes.Given as goal

abbrev pub invariant-many : goal.invariant-many
invariant-many l = l.out.items ++ closing l.left ≡ l.initial.out.items ++ closing l.closes

abbrev pub decreases-many : goal.decreases-many
decreases-many l = l.left
