use Rattle.wb_compose_texts.proofs.AgreesLemmas.{agrees}
use Rattle.wb_compose_texts.proofs.tree_laws.signatures_law.Goals as goal

pub returns : goal.returns
returns c = agrees
