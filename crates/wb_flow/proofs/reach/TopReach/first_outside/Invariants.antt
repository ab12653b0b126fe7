use Rattle.std.proofs.Common.{◌<◌, ℕ}
use Rattle.wb_flow.specs.Inner.Closing.{IsOutsideAt}
use Rattle.wb_flow.proofs.reach.TopReach.first_outside.Given as goal

abbrev pub invariant-numbers : goal.invariant-numbers
invariant-numbers l = (k i : ℕ) → k < l.number → ¬ IsOutsideAt l.self.tops l.set l.allowed k i
