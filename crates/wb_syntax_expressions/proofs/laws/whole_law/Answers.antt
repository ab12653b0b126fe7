use Rattle.wb_syntax_expressions.proofs.OneExpression.{one_expression}
use Rattle.wb_syntax_expressions.proofs.PartLemmas.{whole_some, whole_has_parts_before}
use Rattle.wb_syntax_expressions.proofs.laws.whole_law.Goals as goal

pub returns : goal.returns
returns c start = record { some = whole_some; parts = whole_has_parts_before; only = one_expression }
