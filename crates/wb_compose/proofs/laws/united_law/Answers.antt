use Rattle.wb_compose.proofs.CertifiedLemmas.{united_apart}
use Rattle.wb_compose.proofs.laws.united_law.Goals as goal

pub returns : goal.returns
returns c = united_apart
