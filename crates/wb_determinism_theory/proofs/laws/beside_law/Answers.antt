use Rattle.wb_determinism_theory.proofs.UnitedLemmas.{united_beside, united_kept}
use Rattle.wb_determinism_theory.proofs.laws.beside_law.Goals as goal

pub returns-clause-known : goal.returns-clause-known
returns-clause-known c = united_beside

pub returns-clause-kept : goal.returns-clause-kept
returns-clause-kept c = united_kept
