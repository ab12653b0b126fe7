use Rattle.wb_compose_theory_attribute_order.proofs.LawLemmas.{same_needs}
use Rattle.wb_compose_theory_attribute_order.proofs.laws.needs_law.Goals as goal

pub returns : goal.returns
returns c r s a b is ok same operations top = same_needs r s a b is ok same operations top
