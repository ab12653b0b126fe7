use Rattle.wb_certify.proofs.NameLemmas.{names_exclude}
use Rattle.wb_certify.proofs.laws.names_law.Goals as goal

pub returns : goal.returns
returns c = names_exclude
