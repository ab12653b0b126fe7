use Rattle.wb_explain_flows.proofs.StepLemmas.{step_need}
use Rattle.wb_explain_flows.proofs.steps.push_need.Goals as goal

pub returns : goal.returns
returns c =
    step_need c.args.told.now.source.now c.args.told.now.scope.now.attributes.now c.args.production.now c.args.step c.args.out.now.items
    c.push_pair.new.out.items c.extend_from_slice.new.self.items c.reason.result.now c.in_ok-push_pair.ensures
    c.in_ok-extend_from_slice.ensures.items
