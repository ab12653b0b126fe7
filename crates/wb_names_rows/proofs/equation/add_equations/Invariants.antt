use Rattle.std.proofs.Common.{take}
use Rattle.wb_syntax.specs.declared.expression.Equation.{Equation}
use Rattle.wb_names_numbers_theory.specs.Written.{makes_attribute}
use Rattle.wb_names_rows.specs.Nodes.{IsFoundEquation, AddsAll}
use Rattle.wb_names_rows.proofs.equation.add_equations.Given as goal

abbrev pub invariant-loop-equation : goal.invariant-loop-equation
invariant-loop-equation l =
    AddsAll (λ (q : Equation). makes_attribute q.target) (IsFoundEquation l.scope l.labels) (take l.equation-index l.equations)
    l.fn.made.items
    l.made.items
