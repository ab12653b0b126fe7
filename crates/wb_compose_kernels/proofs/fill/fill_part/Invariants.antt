use Rattle.wb_compose_kernels.specs.Inner.Filling.{GainsBy, IsNewGain}
use Rattle.wb_compose_kernels.proofs.GainLemmas.{IsGainBelow}
use Rattle.wb_compose_kernels.proofs.fill.fill_part.Given as goal

abbrev pub invariant-places : goal.invariant-places
invariant-places l = GainsBy l.filling (λ h. IsGainBelow l.filling.kernels.now (IsNewGain l.filling h l.part) l.place) l.initial.made l.made
