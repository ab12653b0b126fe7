use Rattle.wb_determinism.proofs.LawLemmas.{composable}
use Rattle.wb_determinism.proofs.laws.composable_law.Goals as goal

pub returns : goal.returns
returns c = composable
