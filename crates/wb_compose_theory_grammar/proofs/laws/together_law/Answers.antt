use Rattle.wb_compose_theory_grammar.proofs.TogetherLemmas.{has_together}
use Rattle.wb_compose_theory_grammar.proofs.laws.together_law.Goals as goal

pub returns : goal.returns
returns c = has_together
