use Rattle.wb_eval_theory.proofs.ReadBackLemmas.{is_read_back}
use Rattle.wb_eval_theory.proofs.laws.read_back_law.Goals as goal

pub returns : goal.returns
returns c = is_read_back
