use Rattle.wb_compose_theory_language.proofs.TextsExist.{text_answer}
use Rattle.wb_compose_theory_language.proofs.laws.text_law.Goals as goal

pub returns : goal.returns
returns c = text_answer
