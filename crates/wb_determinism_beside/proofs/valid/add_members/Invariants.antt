use Rattle.std.proofs.Common.{◌≡◌, ◌<◌, ℕ, length}
use Rattle.std.specs.Prelude.{◌↔◌, ◌⊎◌}
use Rattle.wb_termset.specs.Sets.{IsMember}
use Rattle.wb_determinism_beside.proofs.valid.add_members.Given as goal

abbrev pub invariant-numbers : goal.invariant-numbers
invariant-numbers l = record {
  len : length l.set ≡ length l.initial.set;
  each : (t : ℕ) → IsMember l.set t ↔ (((t < l.number) × IsMember l.other t) ⊎ IsMember l.initial.set t);
}
