use Rattle.wb_compose_texts.proofs.AnswerLemmas.{only_answer}
use Rattle.wb_compose_texts.proofs.tree_laws.one_answer_law.Goals as goal

pub returns : goal.returns
returns c = only_answer
