use Rattle.wb_determinism_theory.proofs.LawLemmas.{known_at}
use Rattle.wb_determinism_theory.proofs.laws.known_law.Goals as goal

pub returns : goal.returns
returns c = λ w e ready other prefix same. known_at ready other prefix same
