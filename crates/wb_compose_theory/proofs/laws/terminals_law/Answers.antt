use Rattle.wb_compose_theory.proofs.ComposedLemmas.{composed_host_terminals, composed_together}
use Rattle.wb_compose_theory.proofs.laws.terminals_law.Goals as goal

pub returns : goal.returns
returns c = record { host = composed_host_terminals; together = composed_together }
