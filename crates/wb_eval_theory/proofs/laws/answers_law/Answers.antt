use Rattle.wb_eval_theory.proofs.FiniteLemmas.{answers_exist}
use Rattle.wb_eval_theory.proofs.laws.answers_law.Goals as goal

pub returns : goal.returns
returns c = answers_exist
