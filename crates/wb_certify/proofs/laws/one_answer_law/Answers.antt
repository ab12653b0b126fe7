use Rattle.wb_certify.proofs.AnswerLemmas.{one_answer}
use Rattle.wb_certify.proofs.laws.one_answer_law.Goals as goal

pub returns : goal.returns
returns c = one_answer c.extension_refusals_law.ensures c.one_forward_answer_law.ensures
