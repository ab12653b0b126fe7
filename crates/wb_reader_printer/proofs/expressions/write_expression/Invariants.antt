use Rattle.std.proofs.Common.{◌≡◌}
use Rattle.wb_syntax.specs.Expression.{Expression}
use Rattle.wb_syntax_expressions.specs.Expression.{nodes_of}
use Rattle.wb_reader_printer.specs.Inner.Walk.{IsVisiting}
use Rattle.wb_reader_printer.proofs.expressions.write_expression.Given as goal

abbrev pub invariant-visits : goal.invariant-visits
invariant-visits l = (e : Expression) → l.nodes ≡ nodes_of e → IsVisiting l.nodes l.fn.line l.line l.place l.stack l._visited e
