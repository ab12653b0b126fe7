use Rattle.std.proofs.Common.{subst}
use Rattle.wb_complete.specs.ForwardRefusals.{IsTrueForwardRefusal}
use Rattle.wb_explain_flows.proofs.reads.push_forward_refusal.Goals as goal

pub push_given-requires-clause-read : goal.push_given-requires-clause-read
push_given-requires-clause-read c =
    subst (IsTrueForwardRefusal c.args.told.now.scope.now.attributes.now 1) c.in-ForwardReads.is c.requires.refusal
