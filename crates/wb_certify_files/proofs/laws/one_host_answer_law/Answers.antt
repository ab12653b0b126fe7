use Rattle.wb_certify_files.proofs.OneHostAnswer.{one_answer}
use Rattle.wb_certify_files.proofs.laws.one_host_answer_law.Goals as goal

pub returns : goal.returns
returns c = one_answer
