use Rattle.wb_flow.specs.declared.positions.Position.TheVariants.{Child}
use Rattle.wb_flow.specs.Inner.Adding.{SomeBelow}
use Rattle.wb_flow.specs.Adding.{Adds}
use Rattle.wb_flow.specs.Inner.Positions.{IsTreeOf}
use Rattle.wb_flow.proofs.positions.add_children.Given as goal

abbrev pub invariant-children : goal.invariant-children
invariant-children l = Adds l.fn.trees.items l.trees.items (SomeBelow l.child (λ k. IsTreeOf l.production (Child k)))
