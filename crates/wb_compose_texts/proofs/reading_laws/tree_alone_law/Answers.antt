use Rattle.wb_compose_texts.proofs.PlainLemmas.{answer_back}
use Rattle.wb_compose_texts.proofs.reading_laws.tree_alone_law.Goals as goal

pub returns : goal.returns
returns c = answer_back
