use Rattle.wb_generate.proofs.OneLemmas.{one_outcome}
use Rattle.wb_generate.proofs.laws.one_outcome_law.Goals as goal

pub returns : goal.returns
returns c = one_outcome
