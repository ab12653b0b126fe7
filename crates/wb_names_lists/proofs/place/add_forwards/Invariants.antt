use Rattle.std.proofs.Common.{◌≡◌, ◌++◌, take}
use Rattle.std.specs.List.{flat_map}
use Rattle.wb_syntax.specs.declared.expression.Equation.{Equation}
use Rattle.wb_names_theory.specs.WrongKind.{misplaced_forward}
use Rattle.wb_names_lists.proofs.place.add_forwards.Given as goal

abbrev pub invariant-equations : goal.invariant-equations
invariant-equations l = l.out.items ≡ l.fn.out.items ++ flat_map (λ (e : Equation). misplaced_forward l.production e.target) (take l.equation-index l.equations)
