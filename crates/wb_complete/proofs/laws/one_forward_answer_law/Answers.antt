use Rattle.wb_complete.proofs.ForwardLemmas.{excluded}
use Rattle.wb_complete.proofs.laws.one_forward_answer_law.Goals as goal

pub returns : goal.returns
returns c = excluded
