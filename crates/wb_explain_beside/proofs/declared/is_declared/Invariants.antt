use Rattle.std.proofs.Common.{length, ◌≤◌}
use Rattle.wb_explain_beside.proofs.declared.is_declared.Given as goal

abbrev pub invariant-loop-end : goal.invariant-loop-end
invariant-loop-end l = l.end ≤ length l.before

abbrev pub decreases-loop-end : goal.decreases-loop-end
decreases-loop-end l = l.end
