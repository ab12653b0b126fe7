use Rattle.wb_marking.proofs.MarkedLemmas.{marked}
use Rattle.wb_marking.proofs.laws.marked_law.Goals as goal

pub returns : goal.returns
returns c r g has rules = marked r g has rules
