use Rattle.wb_marking_holes.proofs.LiftLemmas.{lifted_reduced, no_unit_cycle_without, no_hidden_left_recursion_without}
use Rattle.wb_marking_holes.proofs.UpLemmas.{no_conflict_without, up_viable, up_valid_terminal}
use Rattle.wb_marking_holes.proofs.laws.holes_law.Goals as goal

pub returns-clause-reduced : goal.returns-clause-reduced
returns-clause-reduced c = lifted_reduced

pub returns-clause-unit_cycles : goal.returns-clause-unit_cycles
returns-clause-unit_cycles c = no_unit_cycle_without

pub returns-clause-hidden_left_recursion : goal.returns-clause-hidden_left_recursion
returns-clause-hidden_left_recursion c = no_hidden_left_recursion_without

pub returns-clause-conflicts : goal.returns-clause-conflicts
returns-clause-conflicts c = no_conflict_without

pub returns-clause-prefixes : goal.returns-clause-prefixes
returns-clause-prefixes c = up_viable

pub returns-clause-valid : goal.returns-clause-valid
returns-clause-valid c = up_valid_terminal
