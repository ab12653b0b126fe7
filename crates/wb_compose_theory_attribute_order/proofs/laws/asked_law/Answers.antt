use Rattle.wb_compose_theory_attribute_order.proofs.RowLemmas.{asked_alike}
use Rattle.wb_compose_theory_attribute_order.proofs.laws.asked_law.Goals as goal

pub returns : goal.returns
returns c r s a b same = asked_alike same
