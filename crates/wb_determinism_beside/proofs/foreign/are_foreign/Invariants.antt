use Rattle.std.proofs.Common.{◌<◌, ℕ}
use Rattle.wb_determinism_beside.specs.Inner.Found.{HasForeign}
use Rattle.wb_determinism_beside.proofs.foreign.are_foreign.Given as goal

abbrev pub invariant-kernels : goal.invariant-kernels
invariant-kernels l = (i : ℕ) → i < l.place → HasForeign l.found i
