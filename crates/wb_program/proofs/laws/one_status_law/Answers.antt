use Rattle.wb_program.proofs.OneReport.{one_status}
use Rattle.wb_program.proofs.laws.one_status_law.Goals as goal

pub returns : goal.returns
returns c = one_status c.laws_below.ensures
