use Rattle.std.proofs.Common.{◌<◌, ℕ}
use Rattle.wb_determinism.specs.Conflicts.{HasNoConflictAt}
use Rattle.wb_determinism.proofs.conflict.first_conflict.Given as goal

abbrev pub invariant-items : goal.invariant-items
invariant-items l = (p : ℕ) → p < l.place → HasNoConflictAt l.grammar l.shifts l.row p
