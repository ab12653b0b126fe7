use Rattle.wb_scan_theory.proofs.TablesExist.{kernels_there}
use Rattle.wb_scan_theory.proofs.laws.kernels_law.Goals as goal

pub returns : goal.returns
returns c = kernels_there
