use Rattle.wb_scan_theory.proofs.WordLemmas.{one_tree_of_words}
use Rattle.wb_scan_theory.proofs.laws.unambiguous_law.Goals as goal

pub returns : goal.returns
returns c = one_tree_of_words
