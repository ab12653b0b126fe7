use Rattle.wb_flow.specs.Inner.Adding.{SomeBelow}
use Rattle.wb_flow.specs.Adding.{Adds}
use Rattle.wb_flow.specs.Inner.Arrows.{IsLocalArrow}
use Rattle.wb_flow.proofs.arrows.add_locals.Given as goal

abbrev pub invariant-locals : goal.invariant-locals
invariant-locals l = Adds l.fn.arrows.items l.arrows.items (SomeBelow l.local (IsLocalArrow l.production))
