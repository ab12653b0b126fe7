use Rattle.std.proofs.Common.{length, ◌-◌, ◌≤◌, take}
use Rattle.wb_text_tokens.specs.Spelling.{IsRegexBody}
use Rattle.wb_text_tokens.proofs.regex.regex_body.Given as goal

abbrev pub invariant-loop-count : goal.invariant-loop-count
invariant-loop-count l = (l.at ≤ length l.x) × IsRegexBody (take l.at l.x)

abbrev pub decreases-loop-count : goal.decreases-loop-count
decreases-loop-count l = length l.x - l.at
