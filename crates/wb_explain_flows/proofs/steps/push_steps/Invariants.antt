use Rattle.std.proofs.Common.{take}
use Rattle.wb_explain_flows_lists.specs.Lists.{HasTexts}
use Rattle.wb_explain_flows.specs.Steps.{IsStepText}
use Rattle.wb_explain_flows.proofs.steps.push_steps.Given as goal

abbrev pub invariant-steps : goal.invariant-steps
invariant-steps l = HasTexts (IsStepText l.told.source.now l.told.scope.now.attributes.now l.production) (take l.step-index l.steps)
    l.initial.out.items l.out.items
