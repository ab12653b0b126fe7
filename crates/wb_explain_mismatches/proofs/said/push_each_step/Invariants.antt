use Rattle.std.proofs.Common.{◌≡◌, ◌++◌, take}
use Rattle.std.specs.List.{flat_map}
use Rattle.wb_explain_mismatches.specs.Said.{step_said}
use Rattle.wb_explain_mismatches.proofs.said.push_each_step.Given as goal

abbrev pub invariant-steps : goal.invariant-steps
invariant-steps l = l.out.items
    ≡ l.initial.out.items ++ flat_map (step_said l.world.attributes.now l.world.operations.now) (take l.step-index l.steps)
