use Rattle.wb_compose_kernels.specs.Inner.Blocks.{AreBeforeIn, AreBlocksUpTo}
use Rattle.wb_compose_kernels.proofs.part_blocks.part_blocks.Given as goal

abbrev pub invariant-parts : goal.invariant-parts
invariant-parts l = record { blocks : AreBlocksUpTo l.splice l.part l.list.items; counted : AreBeforeIn l.splice l.part l.before }
