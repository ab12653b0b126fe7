use Rattle.std.proofs.Common.{◌<◌, ℕ}
use Rattle.wb_determinism.specs.Conflicts.{HasNoConflictAt}
use Rattle.wb_determinism_beside.proofs.conflict.has_no_conflict.Given as goal

abbrev pub invariant-items : goal.invariant-items
invariant-items l = (p : ℕ) → p < l.place → HasNoConflictAt l.grammar l.shifts l.row p
