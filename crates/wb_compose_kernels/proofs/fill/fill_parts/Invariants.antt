use Rattle.wb_compose_kernels.specs.Inner.Filling.{GainsBy, IsPartGain}
use Rattle.wb_compose_kernels.proofs.GainLemmas.{IsGainBelow}
use Rattle.wb_compose_kernels.proofs.fill.fill_parts.Given as goal

abbrev pub invariant-parts : goal.invariant-parts
invariant-parts l = GainsBy l.filling (λ h. IsGainBelow l.filling.kernels.now (λ e. IsPartGain l.filling h e) l.part) l.initial.made l.made
