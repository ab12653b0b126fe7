use Rattle.wb_program.proofs.OneReport.{one_text}
use Rattle.wb_program.proofs.laws.one_text_law.Goals as goal

pub returns : goal.returns
returns c = one_text c.laws_below.ensures
