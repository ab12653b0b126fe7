use Rattle.wb_reading_theory.proofs.EndLemmas.{stack_marker, stop_plain, tree_plain}
use Rattle.wb_reading_theory.proofs.laws.walk_law.Goals as goal

pub returns-clause-first : goal.returns-clause-first
returns-clause-first c = stack_marker

pub returns-clause-tree : goal.returns-clause-tree
returns-clause-tree c = tree_plain

pub returns-clause-stop : goal.returns-clause-stop
returns-clause-stop c = stop_plain
