use Rattle.std.proofs.Common.{◌≡◌, ◌≤◌, ◌-◌, drop, length}
use Rattle.wb_text_predictive.specs.Nested.{next_after}
use Rattle.wb_text_predictive.proofs.nested.skip_spaces.Given as goal

abbrev pub invariant-loop-at : goal.invariant-loop-at
invariant-loop-at l = record {
  within : l.at ≤ length l.text;
  same : next_after l.at (drop l.at l.text) ≡ next_after l.from (drop l.from l.text);
}

abbrev pub decreases-loop-at : goal.decreases-loop-at
decreases-loop-at l = length l.text - l.at
