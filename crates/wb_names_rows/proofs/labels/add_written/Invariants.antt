use Rattle.std.proofs.Common.{◌≡◌, ◌++◌, map, take}
use Rattle.wb_syntax.specs.declared.expression.Equation.{Equation}
use Rattle.wb_names_numbers_theory.specs.Written.{local_equations}
use Rattle.wb_names_numbers_theory.proofs.OneProduction.{local_label}
use Rattle.wb_names_rows.proofs.labels.add_written.Given as goal

abbrev pub invariant-loop-equation : goal.invariant-loop-equation
invariant-loop-equation l =
    l.labels ≡ l.fn.labels ++ map (λ (q : Equation). local_label q.target) (local_equations (take l.equation-index l.equations))
