use Rattle.wb_determinism_beside.proofs.ScannedLemmas.{are_scanned}
use Rattle.wb_determinism_beside.proofs.laws.scanned_law.Goals as goal

pub returns : goal.returns
returns c = λ host r h g is clear. are_scanned host r h g is clear
