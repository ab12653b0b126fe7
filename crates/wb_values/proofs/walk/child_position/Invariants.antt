use Rattle.wb_values.specs.Inner.Layouts.{IsWalk}
use Rattle.wb_values.proofs.walk.child_position.Given as goal

abbrev pub invariant-children : goal.invariant-children
invariant-children l = IsWalk l.nodes l.tree l.after l.digits l.top l.at l.left

abbrev pub decreases-children : goal.decreases-children
decreases-children l = l.digits
