use Rattle.wb_compose_theory.proofs.HostTerminalLemmas.{host_terminals}
use Rattle.wb_compose_theory.proofs.laws.expected_law.Goals as goal

pub returns : goal.returns
returns c = host_terminals
