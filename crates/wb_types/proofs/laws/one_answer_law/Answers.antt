use Rattle.wb_types.proofs.AnswerLemmas.{one_answer}
use Rattle.wb_types.proofs.laws.one_answer_law.Goals as goal

pub returns : goal.returns
returns c = one_answer
