use Rattle.std.proofs.Common.{◌-◌, length}
use Rattle.wb_explain_lines.proofs.shown.after_first.Given as goal

abbrev pub decreases-places : goal.decreases-places
decreases-places l = length l.text - l.at
