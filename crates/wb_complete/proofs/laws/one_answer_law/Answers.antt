use Rattle.wb_complete.proofs.AnswerLemmas.{one_answer}
use Rattle.wb_complete.proofs.laws.one_answer_law.Goals as goal

pub returns : goal.returns
returns c = one_answer
