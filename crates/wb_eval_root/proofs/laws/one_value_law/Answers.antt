use Rattle.wb_eval_root.proofs.OneValue.{one_value}
use Rattle.wb_eval_root.proofs.laws.one_value_law.Goals as goal

pub returns : goal.returns
returns c = one_value
