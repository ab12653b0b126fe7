use Rattle.wb_compose_theory_kernels.proofs.NumberedLemmas.{numbered}
use Rattle.wb_compose_theory_kernels.proofs.laws.numbers_law.Goals as goal

pub returns : goal.returns
returns c = numbered
