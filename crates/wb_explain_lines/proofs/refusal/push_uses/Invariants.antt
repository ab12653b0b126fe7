-- No more places are shown than there may be.
use Rattle.std.proofs.Common.{◌-◌}
use Rattle.wb_explain_lines.proofs.refusal.push_uses.Given as goal

abbrev pub decreases-uses : goal.decreases-uses
decreases-uses l = 4 - l.shown
