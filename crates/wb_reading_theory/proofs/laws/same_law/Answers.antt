use Rattle.wb_reading_theory.proofs.ReadingLemmas.{same_reading}
use Rattle.wb_reading_theory.proofs.laws.same_law.Goals as goal

pub returns : goal.returns
returns c = same_reading
