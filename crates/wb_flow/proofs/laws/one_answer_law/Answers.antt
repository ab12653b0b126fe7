use Rattle.wb_flow.proofs.CheckLemmas.{flows_one_answer}
use Rattle.wb_flow.proofs.laws.one_answer_law.Goals as goal

pub returns : goal.returns
returns c = flows_one_answer
