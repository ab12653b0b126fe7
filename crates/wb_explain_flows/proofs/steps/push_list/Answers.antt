use Rattle.wb_explain_flows.specs.Steps.{IsStepText}
use Rattle.wb_explain_flows_lists.proofs.TextLemmas.{lists_all}
use Rattle.wb_explain_flows.proofs.steps.push_list.Goals as goal

pub returns : goal.returns
returns c =
    lists_all (IsStepText c.args.told.now.source.now c.args.told.now.scope.now.attributes.now c.args.production.now) c.args.steps.now
    c.first_of.result.now c.args.out.now.items _ c.extend_from_slice.new.self.items c.push_steps.new.out.items
    c.extend_from_slice-2.new.self.items c.args.rest.now c.first_of.ensures c.in_ok-extend_from_slice.ensures.items
    c.in_ok-push_steps.ensures c.in_ok-extend_from_slice-2.ensures.items
