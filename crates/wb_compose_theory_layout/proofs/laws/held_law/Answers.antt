use Rattle.wb_compose_theory_layout.proofs.HeldLemmas.{has_held}
use Rattle.wb_compose_theory_layout.proofs.laws.held_law.Goals as goal

pub returns : goal.returns
returns c = has_held
