use Rattle.wb_grammar_theory.proofs.PrefixLemmas.{front_viable}
use Rattle.wb_grammar_theory.proofs.laws.prefix_law.Goals as goal

pub returns : goal.returns
returns c = front_viable
