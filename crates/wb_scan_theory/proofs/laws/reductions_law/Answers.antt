use Rattle.wb_scan_theory.proofs.StackBounds.{bounded}
use Rattle.wb_scan_theory.proofs.laws.reductions_law.Goals as goal

pub returns : goal.returns
returns c = bounded
