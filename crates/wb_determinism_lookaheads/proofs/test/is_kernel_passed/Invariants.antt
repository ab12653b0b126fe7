use Rattle.std.proofs.Common.{◌<◌, ℕ}
use Rattle.wb_determinism_lookaheads.specs.Inner.Spreading.{IsSlotPassed}
use Rattle.wb_determinism_lookaheads.proofs.test.is_kernel_passed.Given as goal

abbrev pub invariant-slots : goal.invariant-slots
invariant-slots l = (j : ℕ) → j < l.at → IsSlotPassed l.context l.sets l.place j
