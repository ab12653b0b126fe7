use Rattle.wb_compose.proofs.CertifiedLemmas.{together_apart}
use Rattle.wb_compose.proofs.laws.together_law.Goals as goal

pub returns : goal.returns
returns c = together_apart
