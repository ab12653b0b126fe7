use Rattle.std.proofs.Common.{◌≡◌, ◌++◌, map, take}
use Rattle.wb_syntax.specs.declared.expression.Equation.{Equation}
use Rattle.wb_names_numbers_theory.specs.Written.{local_equations}
use Rattle.wb_names_numbers_theory.proofs.OneProduction.{local_label}
use Rattle.wb_names_rows.specs.Blocks.{equations_at}
use Rattle.wb_names_rows.proofs.body.add_all_written.Given as goal

abbrev pub invariant-loop-place : goal.invariant-loop-place
invariant-loop-place l =
    l.names ≡ l.fn.names ++ map (λ (q : Equation). local_label q.target) (local_equations (equations_at l.items (take l.place-index
    l.places)))
