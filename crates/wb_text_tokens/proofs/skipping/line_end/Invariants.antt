use Rattle.std.proofs.Common.{length, ◌-◌, ◌≡◌, ℕ, ◌≤◌, ◌<◌, get_or}
use Rattle.wb_text_tokens.proofs.skipping.line_end.Given as goal

abbrev pub invariant-loop-at : goal.invariant-loop-at
invariant-loop-at l = record {
  ordered : l.from ≤ l.at;
  within : l.at ≤ length l.text;
  one_line : (place : ℕ) → l.from ≤ place → place < l.at → get_or l.text place 0 ≡ 10 → ⊥;
}

abbrev pub decreases-loop-at : goal.decreases-loop-at
decreases-loop-at l = length l.text - l.at
