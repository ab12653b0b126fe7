use Rattle.wb_compose_theory_layout.proofs.HolderLemmas.{has_holders}
use Rattle.wb_compose_theory_layout.proofs.HolderNumbers.{composed_holders}
use Rattle.wb_compose_theory_layout.proofs.laws.holders_law.Goals as goal

pub returns-clause-world : goal.returns-clause-world
returns-clause-world c = has_holders

pub returns-clause-numbers : goal.returns-clause-numbers
returns-clause-numbers c = composed_holders
