use Rattle.wb_flow.specs.declared.positions.Position.TheVariants.{Local}
use Rattle.wb_flow.specs.Inner.Adding.{SomeBelow}
use Rattle.wb_flow.specs.Adding.{Adds}
use Rattle.wb_flow.specs.Inner.Positions.{IsTreeOf}
use Rattle.wb_flow.proofs.positions.add_locals.Given as goal

abbrev pub invariant-locals : goal.invariant-locals
invariant-locals l = Adds l.fn.trees.items l.trees.items (SomeBelow l.local (λ k. IsTreeOf l.production (Local k)))
