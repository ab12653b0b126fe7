use Rattle.std.proofs.Common.{length, ◌-◌, ◌≤◌, take}
use Rattle.wb_text_tokens.specs.Spelling.{IsStringBody}
use Rattle.wb_text_tokens.proofs.string.string_body.Given as goal

abbrev pub invariant-loop-b : goal.invariant-loop-b
invariant-loop-b l = (l.at ≤ length l.x) × IsStringBody (take l.at l.x) l.text.items

abbrev pub decreases-loop-b : goal.decreases-loop-b
decreases-loop-b l = length l.x - l.at
