use Rattle.wb_generate.proofs.ExistLemmas.{some_outcome}
use Rattle.wb_generate.proofs.laws.some_outcome_law.Goals as goal

pub returns : goal.returns
returns c = some_outcome
