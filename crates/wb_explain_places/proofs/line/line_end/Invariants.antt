use Rattle.std.proofs.Common.{◌≢◌, ◌≤◌, ◌<◌, ◌-◌, ℕ, length, slice_index}
use Rattle.wb_explain_places.proofs.line.line_end.Given as goal

abbrev pub invariant-loop-end : goal.invariant-loop-end
invariant-loop-end l = record {
  to : l.at ≤ l.end;
  within : l.end ≤ length l.text;
  none : (k : ℕ) → l.at ≤ k → k < l.end → slice_index l.text k ≢ 10;
}

abbrev pub decreases-loop-end : goal.decreases-loop-end
decreases-loop-end l = length l.text - l.end
