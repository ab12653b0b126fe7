use Rattle.wb_flow.specs.Inner.Closing.{IsClosing}
use Rattle.wb_flow.proofs.closing.close.Given as goal

abbrev pub invariant-steps : goal.invariant-steps
invariant-steps l = IsClosing l.steps l.fn.sets.items l.sets.items l.step-index
