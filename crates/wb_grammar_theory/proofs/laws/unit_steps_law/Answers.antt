use Rattle.wb_grammar_theory.proofs.UnitLemmas.{unit_steps}
use Rattle.wb_grammar_theory.proofs.laws.unit_steps_law.Goals as goal

pub returns : goal.returns
returns c = unit_steps
