use Rattle.std.proofs.Common.{◌<◌, ℕ}
use Rattle.wb_determinism_lookaheads.specs.Inner.Spreading.{IsSlotPassed}
use Rattle.wb_determinism_lookaheads.proofs.test.are_passed.Given as goal

abbrev pub invariant-kernels : goal.invariant-kernels
invariant-kernels l = (i : ℕ) → i < l.place → (j : ℕ) → IsSlotPassed l.context l.sets i j
