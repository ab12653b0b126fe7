use Rattle.wb_compose_theory_attribute_order.proofs.LawLemmas.{same_answers}
use Rattle.wb_compose_theory_attribute_order.proofs.laws.answers_law.Goals as goal

pub returns : goal.returns
returns c r s a b is ok same operations top = same_answers r s a b is ok same operations top
