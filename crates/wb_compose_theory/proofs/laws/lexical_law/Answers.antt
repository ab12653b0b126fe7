use Rattle.wb_compose_theory.proofs.TerminalLemmas.{valid_together}
use Rattle.wb_compose_theory.proofs.laws.lexical_law.Goals as goal

pub returns : goal.returns
returns c = λ w n ok apart. valid_together ok apart
