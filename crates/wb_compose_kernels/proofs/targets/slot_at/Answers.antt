use Rattle.wb_compose_kernels.proofs.SlotLemmas.{sets_len, slots_there}
use Rattle.wb_compose_kernels.proofs.targets.slot_at.Goals as goal

pub new_sets-requires : goal.new_sets-requires
new_sets-requires c = sets_len c.args.filling.now c.requires.filling c.args.part c.args.place c.requires.part

pub slots-requires : goal.slots-requires
slots-requires c =
    slots_there c.args.filling.now c.requires.filling c.args.part c.args.place c.requires.part c.requires.place c.new_sets.result.now
    c.new_sets.ensures
