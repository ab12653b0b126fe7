use Rattle.wb_compose_theory_order.proofs.FactLemmas.{language_there}
use Rattle.wb_compose_theory_order.proofs.laws.language_law.Goals as goal

pub returns : goal.returns
returns c r s l m same numbered ok = language_there same numbered ok
