use Rattle.std.proofs.Common.{[]}
use Rattle.wb_flow.specs.Inner.Adding.{SomeBefore}
use Rattle.wb_flow.specs.Adding.{Adds}
use Rattle.wb_flow.specs.Inner.Closing.{IsStepOf}
use Rattle.wb_flow.proofs.closing.steps_of.Given as goal

abbrev pub invariant-edges : goal.invariant-edges
invariant-edges l = Adds [] l.steps.items (SomeBefore l.edges l.edge-index (IsStepOf l.components))
