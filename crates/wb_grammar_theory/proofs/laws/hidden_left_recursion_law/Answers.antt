use Rattle.wb_grammar_theory.proofs.HiddenLemmas.{hidden_is}
use Rattle.wb_grammar_theory.proofs.laws.hidden_left_recursion_law.Goals as goal

pub returns : goal.returns
returns c = hidden_is
