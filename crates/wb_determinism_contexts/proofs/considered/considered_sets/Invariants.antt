use Rattle.wb_determinism_contexts.specs.Sets.{AreConsideredSets, lent}
use Rattle.wb_determinism_contexts.proofs.considered.considered_sets.Given as goal

abbrev pub invariant-kernels : goal.invariant-kernels
invariant-kernels l = AreConsideredSets l.kernels (lent l.lexicon) l.state l.sets.items
