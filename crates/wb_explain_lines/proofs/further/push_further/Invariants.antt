use Rattle.std.proofs.Common.{◌-◌, length}
use Rattle.wb_explain_lines.proofs.further.push_further.Given as goal

abbrev pub decreases-lines : goal.decreases-lines
decreases-lines l = length l.contents - l.at
