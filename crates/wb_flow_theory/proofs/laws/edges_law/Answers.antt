use Rattle.wb_flow_theory.proofs.EdgeLemmas.{edges_within}
use Rattle.wb_flow_theory.proofs.laws.edges_law.Goals as goal

pub returns : goal.returns
returns c = edges_within
