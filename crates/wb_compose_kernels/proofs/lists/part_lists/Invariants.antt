use Rattle.wb_compose_kernels.specs.Inner.Lists.{ArePartsUpTo}
use Rattle.wb_compose_kernels.proofs.lists.part_lists.Given as goal

abbrev pub invariant-parts : goal.invariant-parts
invariant-parts l = ArePartsUpTo l.splice l.initial.kernels.items l.kernels.items l.new.items l.part
