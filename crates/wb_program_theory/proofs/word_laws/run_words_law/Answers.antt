use Rattle.wb_program_theory.proofs.WordLemmas.{one_run_of_words}
use Rattle.wb_program_theory.proofs.word_laws.run_words_law.Goals as goal

pub returns : goal.returns
returns c = one_run_of_words
