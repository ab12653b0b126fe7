use Rattle.wb_compose.proofs.CertifiedLemmas.{host_apart}
use Rattle.wb_compose.proofs.laws.host_law.Goals as goal

pub returns : goal.returns
returns c = host_apart
