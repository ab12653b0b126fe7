use Rattle.wb_compose_kernels.proofs.SlotLemmas.{sets_len}
use Rattle.wb_compose_kernels.proofs.targets.slot_set.Goals as goal

pub new_sets-requires : goal.new_sets-requires
new_sets-requires c = sets_len c.args.filling.now c.requires.filling c.args.part c.args.place c.requires.part
