use Rattle.wb_compose_texts.proofs.WithdrawnLemmas.{one_withdrawn}
use Rattle.wb_compose_texts.proofs.tree_laws.withdrawn_law.Goals as goal

pub returns : goal.returns
returns c = one_withdrawn
