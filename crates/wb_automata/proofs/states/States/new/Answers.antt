use Rattle.wb_automata.proofs.PlaceLemmas.{paths_none}
use Rattle.wb_automata.proofs.states.States.new.Goals as goal

pub returns-clause-paths : goal.returns-clause-paths
returns-clause-paths c = rw (c.new-2.ensures.items) paths_none
