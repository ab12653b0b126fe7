use Rattle.wb_reading_theory.proofs.EvaluationLemmas.{evaluates_alike}
use Rattle.wb_reading_theory.proofs.laws.attributes_law.Goals as goal

pub returns : goal.returns
returns c = evaluates_alike
