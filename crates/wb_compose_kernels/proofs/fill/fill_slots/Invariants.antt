use Rattle.wb_compose_kernels.specs.Inner.Filling.{Gains, IsSlotGain}
use Rattle.wb_compose_kernels.proofs.GainLemmas.{IsGainBelow}
use Rattle.wb_compose_kernels.proofs.fill.fill_slots.Given as goal

abbrev pub invariant-slots : goal.invariant-slots
invariant-slots l = Gains l.filling.kernels.now (IsGainBelow l.filling.kernels.now (IsSlotGain l.filling l.part l.place l.number) l.at)
    l.initial.made l.made
