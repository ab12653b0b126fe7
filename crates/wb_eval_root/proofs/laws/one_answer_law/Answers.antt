use Rattle.wb_eval_root.proofs.OneAnswer.{one_answer}
use Rattle.wb_eval_root.proofs.laws.one_answer_law.Goals as goal

pub returns : goal.returns
returns c = one_answer
