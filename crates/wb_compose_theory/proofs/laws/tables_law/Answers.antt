use Rattle.wb_compose_theory.proofs.ConflictLemmas.{no_conflict}
use Rattle.wb_compose_theory.proofs.CycleLemmas.{fit}
use Rattle.wb_compose_theory.proofs.laws.tables_law.Goals as goal

pub returns : goal.returns
returns c = λ w n ok apart. record { fit = fit w n ok apart; no_conflict = no_conflict w n ok apart }
