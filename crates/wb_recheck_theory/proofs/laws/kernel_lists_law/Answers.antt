use Rattle.wb_recheck_theory.proofs.KernelListLemmas.{found, exact, states, lines_found}
use Rattle.wb_recheck_theory.proofs.laws.kernel_lists_law.Goals as goal

pub returns-clause-found : goal.returns-clause-found
returns-clause-found c g live kernels moves lists s lt = found live lists s lt

pub returns-clause-exact : goal.returns-clause-exact
returns-clause-exact c g live kernels moves lists prefix s found = exact live lists found

pub returns-clause-states : goal.returns-clause-states
returns-clause-states c g live kernels moves lists prefix_of found = states live lists prefix_of found

pub returns-clause-lines : goal.returns-clause-lines
returns-clause-lines c moves lines along = lines_found moves lines along
