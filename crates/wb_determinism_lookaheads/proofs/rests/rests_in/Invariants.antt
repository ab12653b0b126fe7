use Rattle.std.proofs.Common.{◌≡◌, ℕ, ◌+◌, Some, length, drop}
use Rattle.std.specs.Prelude.{slice_get}
use Rattle.wb_determinism_lookaheads.specs.declared.rests.Rest.{Rest}
use Rattle.wb_determinism_lookaheads.specs.Inner.Rests.{IsRest}
use Rattle.wb_determinism_lookaheads.proofs.rests.rests_in.Given as goal

abbrev pub invariant-places : goal.invariant-places
invariant-places l = record {
  len : length l.row.items ≡ l.place;
  each : (d : ℕ) (rest : Rest) → slice_get l.row.items d ≡ Some rest → IsRest l.grammar (drop (d + 1) l.right) rest;
}
