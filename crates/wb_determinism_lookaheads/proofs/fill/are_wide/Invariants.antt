use Rattle.std.proofs.Common.{◌≡◌, ◌<◌, [], Bool, List, Some, length, ℕ}
use Rattle.std.specs.Prelude.{slice_get, slice_index_or}
use Rattle.wb_determinism_lookaheads.proofs.fill.are_wide.Given as goal

abbrev pub invariant-rows : goal.invariant-rows
invariant-rows l = (i : ℕ) → i < l.place → (j : ℕ) (set : List Bool) → slice_get (slice_index_or l.sets i []) j ≡ Some set →
    length set ≡ l.width
