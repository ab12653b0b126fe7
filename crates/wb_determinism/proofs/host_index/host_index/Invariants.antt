use Rattle.wb_determinism.specs.Inner.Index.{IsIndex}
use Rattle.wb_determinism.proofs.host_index.host_index.Given as goal

abbrev pub invariant-kernels : goal.invariant-kernels
invariant-kernels l = IsIndex l.host l.state l.index.items
