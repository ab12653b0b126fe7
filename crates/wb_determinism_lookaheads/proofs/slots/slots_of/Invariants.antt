use Rattle.std.proofs.Common.{◌≡◌, length}
use Rattle.wb_determinism_lookaheads.proofs.slots.slots_of.Given as goal

abbrev pub invariant-kernels : goal.invariant-kernels
invariant-kernels l = length l.slots.items ≡ l.place
