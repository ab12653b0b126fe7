use Rattle.std.proofs.Common.{◌≡◌, ◌++◌, take}
use Rattle.wb_names_theory.specs.Declares.{equation_declarations}
use Rattle.wb_names_lists.proofs.items.add_equations.Given as goal

abbrev pub invariant-equations : goal.invariant-equations
invariant-equations l = l.out.items ≡ l.fn.out.items ++ equation_declarations l.production (take l.equation-index l.equations)
