use Rattle.wb_compose_theory_grammar.proofs.MarkedLemmas.{united_marked}
use Rattle.wb_compose_theory_grammar.proofs.laws.world_law.Goals as goal

pub returns : goal.returns
returns c = united_marked
