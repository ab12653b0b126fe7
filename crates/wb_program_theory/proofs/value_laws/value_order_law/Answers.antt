use Rattle.wb_program_theory.proofs.OrderLemmas.{roots_there, values_there}
use Rattle.wb_program_theory.proofs.value_laws.value_order_law.Goals as goal

pub returns : goal.returns
returns c = record { values = values_there; roots = roots_there }
