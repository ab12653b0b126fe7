use Rattle.wb_compose_theory_order.proofs.TextLemmas.{same_answers}
use Rattle.wb_compose_theory_order.proofs.laws.answers_law.Goals as goal

pub returns : goal.returns
returns c r s l m same = same_answers same
