use Rattle.wb_program_theory.proofs.ExistenceLemmas.{comes_to_answer}
use Rattle.wb_program_theory.proofs.certified_laws.text_answer_law.Goals as goal

pub returns : goal.returns
returns c = comes_to_answer
