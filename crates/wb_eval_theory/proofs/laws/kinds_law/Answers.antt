use Rattle.wb_eval_theory.proofs.LawLemmas.{has_kinds}
use Rattle.wb_eval_theory.proofs.laws.kinds_law.Goals as goal

pub returns : goal.returns
returns c = has_kinds
