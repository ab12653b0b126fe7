use Rattle.wb_reading_theory.proofs.EvaluationLemmas.{extends_attribution}
use Rattle.wb_reading_theory.proofs.laws.seen_law.Goals as goal

pub returns : goal.returns
returns c = extends_attribution
