use Rattle.wb_grammar_theory.proofs.WalkLemmas.{unit_cycle_in}
use Rattle.wb_grammar_theory.proofs.laws.unit_cycle_law.Goals as goal

pub returns : goal.returns
returns c = unit_cycle_in
