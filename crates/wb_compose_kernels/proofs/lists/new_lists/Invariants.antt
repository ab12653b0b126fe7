use Rattle.wb_compose_kernels.specs.Inner.Lists.{IsNewUpTo}
use Rattle.wb_compose_kernels.proofs.lists.new_lists.Given as goal

abbrev pub invariant-places : goal.invariant-places
invariant-places l = IsNewUpTo l.splice l.initial.kernels.items l.kernels.items l.part l.place l.numbers.items
