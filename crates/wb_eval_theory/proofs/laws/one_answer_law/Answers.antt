use Rattle.wb_eval_theory.proofs.AnswerLemmas.{has_one_answer}
use Rattle.wb_eval_theory.proofs.laws.one_answer_law.Goals as goal

pub returns : goal.returns
returns c = has_one_answer
