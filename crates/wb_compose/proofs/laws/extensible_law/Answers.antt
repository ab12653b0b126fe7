use Rattle.wb_compose.proofs.BridgedLemmas.{same_extensible}
use Rattle.wb_compose.proofs.laws.extensible_law.Goals as goal

pub returns : goal.returns
returns c = same_extensible
