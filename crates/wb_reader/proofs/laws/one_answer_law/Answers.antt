use Rattle.wb_reader.proofs.Excluding.{one_answer}
use Rattle.wb_reader.proofs.laws.one_answer_law.Goals as goal

pub returns : goal.returns
returns c = one_answer
