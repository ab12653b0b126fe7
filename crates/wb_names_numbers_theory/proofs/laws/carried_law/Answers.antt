use Rattle.wb_names_numbers_theory.proofs.BaseCarried.{base_carried}
use Rattle.wb_names_numbers_theory.proofs.laws.carried_law.Goals as goal

pub returns : goal.returns
returns c = base_carried
