use Rattle.wb_program_theory.proofs.WordLemmas.{one_tree_of_words}
use Rattle.wb_program_theory.proofs.word_laws.tree_words_law.Goals as goal

pub returns : goal.returns
returns c = one_tree_of_words
