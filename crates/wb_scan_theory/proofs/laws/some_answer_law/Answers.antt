use Rattle.wb_scan_theory.proofs.TextLemmas.{some_answer}
use Rattle.wb_scan_theory.proofs.laws.some_answer_law.Goals as goal

pub returns : goal.returns
returns c = some_answer
