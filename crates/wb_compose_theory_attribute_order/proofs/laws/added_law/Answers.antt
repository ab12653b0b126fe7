use Rattle.wb_compose_theory_attribute_order.proofs.OrderLemmas.{added_there}
use Rattle.wb_compose_theory_attribute_order.proofs.laws.added_law.Goals as goal

pub returns : goal.returns
returns c = added_there
