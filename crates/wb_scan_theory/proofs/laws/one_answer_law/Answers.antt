use Rattle.wb_scan_theory.proofs.TextLemmas.{one_tree, one_stop, not_both}
use Rattle.wb_scan_theory.proofs.laws.one_answer_law.Goals as goal

pub returns-clause-one_tree : goal.returns-clause-one_tree
returns-clause-one_tree c = one_tree

pub returns-clause-one_stop : goal.returns-clause-one_stop
returns-clause-one_stop c = one_stop

pub returns-clause-not_both : goal.returns-clause-not_both
returns-clause-not_both c = not_both
