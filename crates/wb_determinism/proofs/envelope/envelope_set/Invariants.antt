use Rattle.wb_determinism.proofs.EnvelopeLemmas.{AreAdded}
use Rattle.wb_determinism.proofs.envelope.envelope_set.Given as goal

abbrev pub invariant-kernels : goal.invariant-kernels
invariant-kernels l = AreAdded l.context.host.now l.containing l.item l.state-index l.set
