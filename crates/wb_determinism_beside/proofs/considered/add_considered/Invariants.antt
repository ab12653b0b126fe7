use Rattle.wb_determinism_contexts.specs.Sets.{lent}
use Rattle.wb_determinism_beside.specs.Inner.Found.{AreClear}
use Rattle.wb_determinism_beside.proofs.considered.add_considered.Given as goal

abbrev pub invariant-kernels : goal.invariant-kernels
invariant-kernels l = AreClear l.found (lent l.lexicon) l.place l.sets.items
