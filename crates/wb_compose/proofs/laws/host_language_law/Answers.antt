use Rattle.wb_compose.proofs.HostLanguageLemmas.{composed_alone}
use Rattle.wb_compose.proofs.laws.host_language_law.Goals as goal

pub returns : goal.returns
returns c = composed_alone
