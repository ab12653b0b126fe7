use Rattle.wb_reading_theory.proofs.StopLemmas.{reads_alike}
use Rattle.wb_reading_theory.proofs.laws.reads_law.Goals as goal

pub returns : goal.returns
returns c = λ h u markers of_host of_union extends text plain. reads_alike of_host of_union extends text plain
