use Rattle.wb_compose_kernels.proofs.kernels.with_blocks.Goals as goal

pub host_blocks-requires : goal.host_blocks-requires
host_blocks-requires c = c.requires.given.spliceable
