use Rattle.wb_eval_theory.proofs.CaseLemmas.{has_cases}
use Rattle.wb_eval_theory.proofs.laws.cases_law.Goals as goal

pub returns : goal.returns
returns c = has_cases
