use Rattle.std.proofs.Common.{length, ◌-◌, ℕ, ◌≤◌}
use Rattle.wb_text_tokens.specs.Skipping.{SkipsLayout}
use Rattle.wb_text_tokens.proofs.skipping.skip_layout.Given as goal

abbrev pub invariant-loop-behind : goal.invariant-loop-behind
invariant-loop-behind l = record {
  ordered : l.from ≤ l.at;
  within : l.at ≤ length l.text;
  skips : (place : ℕ) → SkipsLayout l.dialect l.text l.at place → SkipsLayout l.dialect l.text l.from place;
}

abbrev pub decreases-loop-behind : goal.decreases-loop-behind
decreases-loop-behind l = length l.text - l.at
