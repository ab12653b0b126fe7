use Rattle.std.proofs.Common.{◌≡◌, ◌<◌, ◌≤◌, ◌-◌, length, Some}
use Rattle.std.specs.Prelude.{slice_get}
use Rattle.wb_session.specs.declared.checkpoint.Checkpoint.{Checkpoint}
use Rattle.wb_session.proofs.checkpoint.last_before.Given as goal

abbrev pub invariant-halves : goal.invariant-halves
invariant-halves l = record {
  order : l.low < l.high;
  within : l.high ≤ length l.checkpoints;
  before : (point : Checkpoint) → slice_get l.checkpoints l.low ≡ Some point → point.reach ≤ l.from;
}

abbrev pub decreases-halves : goal.decreases-halves
decreases-halves l = l.high - l.low
