use Rattle.std.proofs.Common.{◌≢◌, ◌≤◌, ◌<◌, ℕ, slice_index}
use Rattle.wb_explain_places.proofs.line.line_start.Given as goal

abbrev pub invariant-loop-start : goal.invariant-loop-start
invariant-loop-start l = record {
  from : l.start ≤ l.at;
  none : (k : ℕ) → l.start ≤ k → k < l.at → slice_index l.text k ≢ 10;
}

abbrev pub decreases-loop-start : goal.decreases-loop-start
decreases-loop-start l = l.start
