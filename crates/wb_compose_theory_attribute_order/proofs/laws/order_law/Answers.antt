use Rattle.wb_compose_theory_attribute_order.proofs.OrderLemmas.{same_union}
use Rattle.wb_compose_theory_attribute_order.proofs.laws.order_law.Goals as goal

pub returns : goal.returns
returns c = same_union
