use Rattle.wb_flow.specs.Inner.Adding.{SomeBefore}
use Rattle.wb_flow.specs.Adding.{Adds}
use Rattle.wb_flow.specs.Inner.Arrows.{IsEquationArrow}
use Rattle.wb_flow.proofs.arrows.add_equations.Given as goal

abbrev pub invariant-equations : goal.invariant-equations
invariant-equations l = Adds l.fn.arrows.items l.arrows.items (SomeBefore l.equation-items l.equation-index IsEquationArrow)
