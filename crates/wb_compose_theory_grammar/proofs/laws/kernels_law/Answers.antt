use Rattle.wb_compose_theory_grammar.proofs.UnitedLemmas.{same_kernels}
use Rattle.wb_compose_theory_grammar.proofs.laws.kernels_law.Goals as goal

pub returns : goal.returns
returns c = same_kernels
