use Rattle.wb_determinism.specs.Inner.Considered.{AreConsidered}
use Rattle.wb_determinism.proofs.envelope_test.envelope_sets.Given as goal

abbrev pub invariant-kernels : goal.invariant-kernels
invariant-kernels l = AreConsidered l.context l.layout l.regions l.state l.sets.items
