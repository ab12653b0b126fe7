use Rattle.wb_program.proofs.OneReport.{end_as_reported}
use Rattle.wb_program.proofs.laws.complete_law.Goals as goal

pub returns : goal.returns
returns c = end_as_reported c.laws_below.ensures
