use Rattle.std.proofs.Common.{List, length}
use Rattle.wb_syntax.specs.Expression.{Node}
use Rattle.wb_reader_printer.specs.Inner.Walk.{Continues}
use Rattle.wb_reader_printer.proofs.expressions.next_whole.Given as goal

abbrev pub invariant-waiting : goal.invariant-waiting
invariant-waiting l = (nodes : List Node) → Continues nodes l.fn.line l.fn.stack l.line l.stack 0

abbrev pub decreases-waiting : goal.decreases-waiting
decreases-waiting l = length l.stack
