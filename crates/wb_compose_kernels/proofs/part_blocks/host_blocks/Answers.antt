use Rattle.wb_compose_kernels.proofs.part_blocks.host_blocks.Goals as goal

pub returns : goal.returns
returns c = c.blocks_with.ensures
