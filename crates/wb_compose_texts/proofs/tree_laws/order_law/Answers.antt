use Rattle.wb_compose_texts.proofs.AnswerLemmas.{same_answer}
use Rattle.wb_compose_texts.proofs.tree_laws.order_law.Goals as goal

pub returns : goal.returns
returns c = same_answer
