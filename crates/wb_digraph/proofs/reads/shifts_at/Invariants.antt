use Rattle.std.proofs.Common.{◌≡◌, ◌+◌, ℕ, length, take}
use Rattle.std.specs.Prelude.{◌↔◌}
use Rattle.wb_termset.specs.Sets.{IsMember}
use Rattle.wb_digraph.proofs.ReadLemmas.{ShiftsIn}
use Rattle.wb_digraph.proofs.reads.shifts_at.Given as goal

abbrev pub invariant-row : goal.invariant-row
invariant-row l = record {
  width : length l.set ≡ l.context.kernels.now.grammar.terminals + 1;
  members : (t : ℕ) → IsMember l.set t ↔ ShiftsIn (take l.step-index l.row) t;
}
