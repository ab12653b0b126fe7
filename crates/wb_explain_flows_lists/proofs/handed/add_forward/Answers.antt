use Rattle.std.proofs.Common.{refl}
use Rattle.wb_explain_flows_lists.specs.Handed.{by_forward}
use Rattle.wb_explain_flows_lists.proofs.handed.add_forward.Goals as goal

pub returns-in_default : goal.returns-in_default
returns-in_default c = λ before. before

pub add_nodes-requires-clause-rule : goal.add_nodes-requires-clause-rule
add_nodes-requires-clause-rule c = by_forward c.in-Some.forward c.in-Some.is refl refl c.as_slice.ensures
