use Rattle.wb_scan_theory.proofs.HasOneLemmas.{has_one}
use Rattle.wb_scan_theory.proofs.laws.winner_law.Goals as goal

pub returns : goal.returns
returns c = has_one
