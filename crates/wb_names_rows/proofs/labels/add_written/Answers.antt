use Rattle.std.proofs.Common.{◌≡◌, ◌++◌, ◌∷◌, [], List, map, take, subst}
use Rattle.std.proofs.lemmas.List.{take_all}
use Rattle.wb_syntax.specs.declared.expression.Equation.{Equation}
use Rattle.wb_names_numbers_theory.specs.Written.{local_equations}
use Rattle.wb_names_numbers_theory.proofs.OneProduction.{local_label}
use Rattle.wb_names_rows.proofs.BlockLemmas.{labels_append}
use Rattle.wb_names_rows.proofs.ListLemmas.{take_next}
use Rattle.wb_names_rows.proofs.labels.add_written.Goals as goal

pub loop-equation-preserved : goal.loop-equation-preserved
loop-equation-preserved c =
    let equations = c.args.equations.now in
    let i = c.loop-equation.equation-index in
    let equation = c.equation-item.result in
    subst (λ (z : List Equation). c.add_label.new.labels ≡ c.args.labels.now ++ map (λ (q : Equation). local_label q.target)
    (local_equations z))
    (take_next equations i equation c.loop-equation-test.true c.equation-item.is)
    (labels_append (take i equations) (equation ∷ []) c.args.labels.now c.loop-equation.labels c.add_label.new.labels
    c.loop-equation.invariant c.in_ok-add_label.ensures)

pub returns : goal.returns
returns c =
    subst (λ (z : List Equation). c.loop-equation.labels ≡ c.args.labels.now ++ map (λ (q : Equation). local_label q.target)
    (local_equations z))
    (take_all c.loop-equation.equation-index c.args.equations.now c.loop-equation-test.false) c.loop-equation.invariant
