use Rattle.wb_scan_theory.proofs.AnswersExist.{answer_exists, next_exists, winner_exists}
use Rattle.wb_scan_theory.proofs.laws.answer_law.Goals as goal

pub returns-clause-answer : goal.returns-clause-answer
returns-clause-answer c = answer_exists

pub returns-clause-next : goal.returns-clause-next
returns-clause-next c = next_exists

pub returns-clause-winner : goal.returns-clause-winner
returns-clause-winner c = winner_exists
