use Rattle.wb_compose.proofs.ExistenceLemmas.{some_answer, some_language}
use Rattle.wb_compose.proofs.laws.existence_law.Goals as goal

pub returns : goal.returns
returns c = record { language = some_language; text = some_answer }
