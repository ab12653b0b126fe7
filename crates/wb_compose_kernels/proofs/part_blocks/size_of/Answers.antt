use Rattle.wb_compose_kernels.proofs.EachLemmas.{size_found}
use Rattle.wb_compose_kernels.proofs.part_blocks.size_of.Goals as goal

pub returns : goal.returns
returns c = size_found c.args.splice.now c.args.part c.part_at.result c.part_at.ensures
