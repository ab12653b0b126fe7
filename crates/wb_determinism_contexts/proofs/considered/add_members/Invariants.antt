use Rattle.std.proofs.Common.{◌≡◌, ◌≤◌, ◌-◌, length}
use Rattle.wb_determinism_contexts.proofs.SetLemmas.{HasAdded}
use Rattle.wb_determinism_contexts.proofs.considered.add_members.Given as goal

abbrev pub invariant-members : goal.invariant-members
invariant-members l = record {
  low : l.from ≤ l.below;
  len : length l.set ≡ length l.initial.set;
  added : HasAdded l.initial.set l.other l.from l.set;
}

abbrev pub decreases-members : goal.decreases-members
decreases-members l = length l.other - l.from
