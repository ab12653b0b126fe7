use Rattle.wb_compose_theory_order.proofs.OrderLemmas.{same_members}
use Rattle.wb_compose_theory_order.proofs.laws.reordering_law.Goals as goal

pub returns : goal.returns
returns c written others one two same = same_members written others one two same
