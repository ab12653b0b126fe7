use Rattle.wb_compose_theory_kernels.proofs.LocalLemmas.{are_local, are_taken}
use Rattle.wb_compose_theory_kernels.proofs.laws.lookaheads_law.Goals as goal

pub returns-clause-local : goal.returns-clause-local
returns-clause-local c = are_local

pub returns-clause-numbers : goal.returns-clause-numbers
returns-clause-numbers c = are_taken
