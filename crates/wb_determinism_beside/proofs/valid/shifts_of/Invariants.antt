use Rattle.std.proofs.Common.{◌≡◌, ◌+◌, ℕ, length}
use Rattle.std.specs.Prelude.{◌↔◌}
use Rattle.wb_termset.specs.Sets.{IsMember}
use Rattle.wb_determinism.specs.Valid.{IsShifted}
use Rattle.wb_determinism_beside.proofs.valid.shifts_of.Given as goal

abbrev pub invariant-items : goal.invariant-items
invariant-items l = record {
  len : length l.shifts ≡ l.grammar.terminals + 1;
  each : (t : ℕ) → IsMember l.shifts t ↔ IsShifted l.grammar l.row l.place t;
}
