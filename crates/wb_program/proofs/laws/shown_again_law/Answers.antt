use Rattle.wb_program.proofs.ShownAgain.{is_stable}
use Rattle.wb_program.proofs.laws.shown_again_law.Goals as goal

pub returns : goal.returns
returns c = is_stable
