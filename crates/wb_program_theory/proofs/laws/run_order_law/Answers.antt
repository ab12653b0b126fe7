use Rattle.wb_program_theory.proofs.RunLemmas.{one_run_order}
use Rattle.wb_program_theory.proofs.laws.run_order_law.Goals as goal

pub returns : goal.returns
returns c = one_run_order
