use Rattle.std.proofs.Common.{◌≡◌, ◌<◌, ℕ, length}
use Rattle.std.specs.Prelude.{◌↔◌, ◌⊎◌}
use Rattle.wb_termset.specs.Sets.{IsMember}
use Rattle.wb_lexical.proofs.rows.add_members.Given as goal

abbrev pub invariant-numbers : goal.invariant-numbers
invariant-numbers l = record {
  len : length l.row ≡ length l.initial.row;
  each : (u : ℕ) → IsMember l.row u ↔ (((u < l.number) × IsMember l.set u) ⊎ IsMember l.initial.row u);
}
