use Rattle.wb_reading_theory.proofs.ReadingLemmas.{same_attributes}
use Rattle.wb_reading_theory.proofs.laws.tree_law.Goals as goal

pub returns : goal.returns
returns c = same_attributes
