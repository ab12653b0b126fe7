use Rattle.wb_program_theory.proofs.ReportLemmas.{one_order}
use Rattle.wb_program_theory.proofs.laws.order_law.Goals as goal

pub returns : goal.returns
returns c = one_order
