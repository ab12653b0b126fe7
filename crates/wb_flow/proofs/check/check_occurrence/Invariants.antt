use Rattle.std.proofs.Common.{◌≡◌, ◌<◌, ℕ, Some, Contains, slice_get}
use Rattle.wb_flow.proofs.check.check_occurrence.Given as goal

abbrev pub invariant-needs : goal.invariant-needs
invariant-needs l = (k i : ℕ) → k < l.inherited-index → slice_get l.inherited-items k ≡ Some i → Contains l.occurrence.needs i
