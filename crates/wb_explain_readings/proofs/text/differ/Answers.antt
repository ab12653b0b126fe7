use Rattle.wb_explain_readings.proofs.LeafLemmas.{not_both}
use Rattle.wb_explain_readings.proofs.text.differ.Goals as goal

pub returns : goal.returns
returns c = λ is same. not_both c.are_same.result is (c.are_same.ensures.1 same)
