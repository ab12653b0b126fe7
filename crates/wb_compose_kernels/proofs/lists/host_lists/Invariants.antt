use Rattle.wb_compose_kernels.specs.Inner.Lists.{IsHostUpTo}
use Rattle.wb_compose_kernels.proofs.lists.host_lists.Given as goal

abbrev pub invariant-states : goal.invariant-states
invariant-states l = IsHostUpTo l.splice l.kernels.items l.numbers.items l.state
