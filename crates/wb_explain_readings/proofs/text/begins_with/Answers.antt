use Rattle.wb_explain_readings.proofs.LeafLemmas.{begin_of}
use Rattle.wb_explain_readings.proofs.text.begins_with.Goals as goal

pub returns : goal.returns
returns c = λ is. begin_of c.args.all.now c.args.text.now _ (c.is_same.ensures.0 is)
