use Rattle.wb_compose_theory_order.proofs.NameLemmas.{in_turn_there, names_there}
use Rattle.wb_compose_theory_order.proofs.laws.names_law.Goals as goal

pub returns-clause-rows : goal.returns-clause-rows
returns-clause-rows c own blocks others to from re number = in_turn_there own re number

pub returns-clause-productions : goal.returns-clause-productions
returns-clause-productions c host extensible pieces others own blocks other_blocks signatures other_signatures to from one two re g =
    names_there one two re g
