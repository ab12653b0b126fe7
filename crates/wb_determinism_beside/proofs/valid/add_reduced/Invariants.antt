use Rattle.std.proofs.Common.{◌≡◌, ◌<◌, ℕ, length}
use Rattle.std.specs.Prelude.{◌↔◌, ◌⊎◌}
use Rattle.wb_termset.specs.Sets.{IsMember}
use Rattle.wb_determinism.specs.Valid.{IsReduced}
use Rattle.wb_determinism_beside.proofs.valid.add_reduced.Given as goal

abbrev pub invariant-items : goal.invariant-items
invariant-items l = record {
  len : length l.set ≡ length l.initial.set;
  each : (t : ℕ) → IsMember l.set t ↔ (IsMember l.initial.set t ⊎ ((t < l.below) × IsReduced l.grammar l.row l.place t));
}
