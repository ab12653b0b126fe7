use Rattle.wb_scan_theory.proofs.BareLemmas.{bare_decided}
use Rattle.wb_scan_theory.proofs.laws.bare_law.Goals as goal

pub returns : goal.returns
returns c l written ok = bare_decided ok written
