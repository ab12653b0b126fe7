use Rattle.wb_recheck_lines.proofs.ListedLemmas.{kernels_and_moves}
use Rattle.wb_recheck_lines.proofs.laws.parts_law.Goals as goal

pub returns : goal.returns
returns c = λ kernels lists moves are listed exact. kernels_and_moves kernels lists are listed moves exact
