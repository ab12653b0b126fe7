use Rattle.wb_grammar_theory.proofs.ClosureLemmas.{moves_exact}
use Rattle.wb_grammar_theory.proofs.laws.moves_law.Goals as goal

pub returns : goal.returns
returns c = moves_exact
