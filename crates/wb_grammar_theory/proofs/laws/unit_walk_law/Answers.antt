use Rattle.wb_grammar_theory.proofs.UnitLemmas.{unit_cycle_is}
use Rattle.wb_grammar_theory.proofs.laws.unit_walk_law.Goals as goal

pub returns : goal.returns
returns c = unit_cycle_is
