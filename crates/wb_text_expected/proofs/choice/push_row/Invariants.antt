use Rattle.std.proofs.Common.{◌≡◌, ◌≤◌, ◌++◌, drop, reverse, length}
use Rattle.wb_text_expected.proofs.choice.push_row.Given as goal

abbrev pub invariant-loop-left : goal.invariant-loop-left
invariant-loop-left g l = (l.left ≤ length l.row) × (reverse l.stack.items ≡ drop l.left l.row ++ reverse l.fn.stack.items)

abbrev pub decreases-loop-left : goal.decreases-loop-left
decreases-loop-left g l = l.left
