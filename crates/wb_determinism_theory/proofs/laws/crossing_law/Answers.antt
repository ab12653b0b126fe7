use Rattle.wb_determinism_theory.proofs.CrossingLemmas.{crossing}
use Rattle.wb_determinism_theory.proofs.laws.crossing_law.Goals as goal

pub returns : goal.returns
returns c = λ w part ok prefix m h mark has t. crossing ok prefix m h mark has t
