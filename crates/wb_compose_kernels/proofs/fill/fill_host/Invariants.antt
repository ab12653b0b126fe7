use Rattle.wb_compose_kernels.specs.Inner.Filling.{GainsBy, IsHostGain}
use Rattle.wb_compose_kernels.proofs.GainLemmas.{IsGainBelow}
use Rattle.wb_compose_kernels.proofs.fill.fill_host.Given as goal

abbrev pub invariant-states : goal.invariant-states
invariant-states l = GainsBy l.filling (λ h. IsGainBelow l.filling.kernels.now (λ k. IsHostGain l.filling h k) l.state) l.initial.made l.made
