use Rattle.wb_determinism.proofs.LawLemmas.{ruled_out}
use Rattle.wb_determinism.proofs.laws.extension_refusals_law.Goals as goal

pub returns : goal.returns
returns c = ruled_out
