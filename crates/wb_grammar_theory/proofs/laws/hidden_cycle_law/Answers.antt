use Rattle.wb_grammar_theory.proofs.WalkLemmas.{hidden_cycle_is}
use Rattle.wb_grammar_theory.proofs.laws.hidden_cycle_law.Goals as goal

pub returns : goal.returns
returns c = hidden_cycle_is
