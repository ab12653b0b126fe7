use Rattle.wb_compose.proofs.CertifiedLemmas.{certified_apart}
use Rattle.wb_compose.proofs.laws.certified_law.Goals as goal

pub returns : goal.returns
returns c = certified_apart
