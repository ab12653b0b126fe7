use Rattle.std.proofs.Common.{◌-◌, length}
use Rattle.wb_explain_lines.proofs.words.text_of.Given as goal

abbrev pub decreases-loop-place : goal.decreases-loop-place
decreases-loop-place l = length l.words - l.place
