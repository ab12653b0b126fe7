use Rattle.std.proofs.Common.{subst}
use Rattle.wb_flow.specs.Refusals.{IsTrueFlowRefusal}
use Rattle.wb_explain_flows.proofs.reads.push_flow_refusal.Goals as goal

pub push_outside-requires-clause-outside : goal.push_outside-requires-clause-outside
push_outside-requires-clause-outside c =
    subst (IsTrueFlowRefusal c.args.told.now.scope.now.attributes.now) c.in-Reads.is c.requires.refusal
