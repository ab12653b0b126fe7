use Rattle.wb_compose_theory.proofs.LookaheadLemmas.{lookaheads}
use Rattle.wb_compose_theory.proofs.laws.lookaheads_law.Goals as goal

pub returns : goal.returns
returns c = lookaheads
