use Rattle.wb_eval_theory.proofs.LawLemmas.{is_well_founded}
use Rattle.wb_eval_theory.proofs.laws.needs_law.Goals as goal

pub returns : goal.returns
returns c = is_well_founded
