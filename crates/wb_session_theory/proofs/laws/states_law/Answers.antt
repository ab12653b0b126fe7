use Rattle.wb_session_theory.proofs.NumberLemmas.{state_kernel, states_symbols, states_same}
use Rattle.wb_session_theory.proofs.laws.states_law.Goals as goal

pub returns-clause-kernel : goal.returns-clause-kernel
returns-clause-kernel c g tables ok state prefix other p q = state_kernel ok p q

pub returns-clause-symbols : goal.returns-clause-symbols
returns-clause-symbols c g tables ok prefix prefix' states stack other a b = states_symbols tables ok prefix prefix' states stack other a b

pub returns-clause-same : goal.returns-clause-same
returns-clause-same c g tables prefix states stack other a e = states_same g tables prefix states stack other a e
