use Rattle.wb_compose.proofs.LawLemmas.{are_united}
use Rattle.wb_compose.proofs.attribute_laws.attributes_law.Goals as goal

pub returns : goal.returns
returns c = are_united
