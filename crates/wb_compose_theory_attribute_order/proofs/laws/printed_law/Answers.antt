use Rattle.wb_compose_theory_attribute_order.proofs.LawLemmas.{value_alike}
use Rattle.wb_compose_theory_attribute_order.proofs.laws.printed_law.Goals as goal

pub returns : goal.returns
returns c r s a b is ok same v = value_alike is ok same v
