use Rattle.wb_compose_kernels.specs.Inner.Filling.{Gains, IsHostItemGain}
use Rattle.wb_compose_kernels.proofs.GainLemmas.{IsGainBelow}
use Rattle.wb_compose_kernels.proofs.fill.fill_host_row.Given as goal

abbrev pub invariant-places : goal.invariant-places
invariant-places l = Gains l.filling.kernels.now (IsGainBelow l.filling.kernels.now (IsHostItemGain l.filling l.state l.number) l.place)
    l.initial.made l.made
