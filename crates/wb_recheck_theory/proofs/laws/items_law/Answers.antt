use Rattle.wb_recheck_theory.proofs.ClosureLemmas.{items_are_closure, kernel_first, kernel_moved}
use Rattle.wb_recheck_theory.proofs.laws.items_law.Goals as goal

pub returns-clause-first : goal.returns-clause-first
returns-clause-first c = kernel_first

pub returns-clause-moved : goal.returns-clause-moved
returns-clause-moved c = kernel_moved

pub returns-clause-closure : goal.returns-clause-closure
returns-clause-closure c = items_are_closure
