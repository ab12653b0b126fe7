use Rattle.std.proofs.Common.{◌≡◌, ◌<◌, Bool, List, Some, length, ℕ}
use Rattle.std.specs.Prelude.{slice_get}
use Rattle.wb_determinism_lookaheads.proofs.row.Row.is_wide.Given as goal

abbrev pub invariant-sets : goal.invariant-sets
invariant-sets l = (j : ℕ) (set : List Bool) → j < l.at → slice_get l.self j ≡ Some set → length set ≡ l.width
