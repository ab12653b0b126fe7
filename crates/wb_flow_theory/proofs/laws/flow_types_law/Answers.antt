use Rattle.wb_flow_theory.proofs.OccurrenceLemmas.{one_flow_type, flow_type_inherited, forward_inherited}
use Rattle.wb_flow_theory.proofs.laws.flow_types_law.Goals as goal

pub returns-clause-once : goal.returns-clause-once
returns-clause-once c = one_flow_type

pub returns-clause-inherited : goal.returns-clause-inherited
returns-clause-inherited c = flow_type_inherited

pub returns-clause-forward : goal.returns-clause-forward
returns-clause-forward c = forward_inherited
