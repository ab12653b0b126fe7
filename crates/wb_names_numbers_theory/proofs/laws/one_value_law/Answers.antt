use Rattle.wb_names_numbers_theory.proofs.OneValue.{only_value}
use Rattle.wb_names_numbers_theory.proofs.laws.one_value_law.Goals as goal

pub returns : goal.returns
returns c = only_value
