use Rattle.std.proofs.Common.{◌≡◌, ◌++◌, take}
use Rattle.std.specs.List.{flat_map}
use Rattle.wb_names_theory.specs.Uses.{equation_uses}
use Rattle.wb_names_lists.proofs.uses.add_equations.Given as goal

abbrev pub invariant-equations : goal.invariant-equations
invariant-equations l = l.out.items ≡ l.fn.out.items ++ flat_map (equation_uses l.production) (take l.equation-index l.equations)
