use Rattle.wb_compose_texts.proofs.PlainLemmas.{answer_there}
use Rattle.wb_compose_texts.proofs.reading_laws.tree_law.Goals as goal

pub returns : goal.returns
returns c = answer_there
