use Rattle.std.proofs.lemmas.Option.{IfSome_then}
use Rattle.wb_explain_flows.proofs.StepLemmas.{equation_at, local_at, forward_at}
use Rattle.wb_explain_flows.proofs.rule.rule_of.Goals as goal

pub returns-in-LocalTree : goal.returns-in-LocalTree
returns-in-LocalTree c =
    IfSome_then c.local_rule.result c.local_rule.ensures
    (local_at c.args.production.now c.args.from c.args.to c.in-LocalTree.local c.in-LocalTree.is c.as_slice.result.now c.as_slice.ensures)

pub returns-in-ForwardTree : goal.returns-in-ForwardTree
returns-in-ForwardTree c =
    IfSome_then c.forward_rule.result c.forward_rule.ensures
    (forward_at c.args.production.now c.args.from c.args.to c.in-ForwardTree.is)

pub returns-in_default : goal.returns-in_default
returns-in_default c =
    IfSome_then c.equation_rule.result c.equation_rule.ensures
    (equation_at c.args.production.now c.args.from c.args.to c.as_slice-in_default.result.now c.as_slice-in_default.ensures)
