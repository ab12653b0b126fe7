use Rattle.wb_explain_flows.specs.Steps.{IsStepText}
use Rattle.wb_explain_flows_lists.proofs.TextLemmas.{all_texts, no_texts, one_text}
use Rattle.wb_explain_flows.proofs.steps.push_steps.Goals as goal

pub steps-init : goal.steps-init
steps-init c =
    no_texts (IsStepText c.args.told.now.source.now c.args.told.now.scope.now.attributes.now c.args.production.now) c.args.steps.now
    c.args.out.now.items

pub steps-preserved : goal.steps-preserved
steps-preserved c =
    one_text (IsStepText c.args.told.now.source.now c.args.told.now.scope.now.attributes.now c.args.production.now) c.args.steps.now
    c.args.out.now.items c.steps.out.items c.push_step.new.out.items c.steps.step-index _ c.steps.invariant c.steps-test.true
    c.in_ok-push_step.ensures

pub returns : goal.returns
returns c =
    all_texts (IsStepText c.args.told.now.source.now c.args.told.now.scope.now.attributes.now c.args.production.now) c.args.steps.now
    c.args.out.now.items c.steps.out.items c.steps.step-index c.steps.invariant c.steps-test.false
