use Rattle.std.proofs.Common.{◌≡◌, ◌++◌, List, map, take, subst, sym, ap, ◌∙◌}
use Rattle.wb_syntax.specs.declared.expression.Equation.{Equation}
use Rattle.wb_syntax.specs.Equations.{equations_of}
use Rattle.wb_names_numbers_theory.specs.Written.{local_equations}
use Rattle.wb_names_numbers_theory.proofs.OneProduction.{local_label}
use Rattle.wb_names_rows.specs.Blocks.{equations_at}
use Rattle.wb_names_rows.proofs.BlockLemmas.{equations_more, labels_append}
use Rattle.wb_names_rows.proofs.body.add_all_written.Goals as goal

pub loop-place-preserved : goal.loop-place-preserved
loop-place-preserved c =
    let items = c.args.items.now in
    let places = c.args.places.now in
    let i = c.loop-place.place-index in
    let item = c.index-items-place.result in
    let more = equations_more items places i item c.loop-place-test.true (c.requires i 0 c.loop-place-test.true) c.index-items-place.is in
    subst (λ (z : List Equation). c.add_written.new.labels ≡ c.args.names.now ++ map (λ (q : Equation). local_label q.target)
    (local_equations z))
    (sym more) (labels_append (equations_at items (take i places)) (equations_of item.form) c.args.names.now c.loop-place.names
    c.add_written.new.labels c.loop-place.invariant (c.in_ok-add_written.ensures
    ∙ ap (λ (z : List Equation). c.loop-place.names ++ map (λ (q : Equation). local_label q.target) (local_equations z))
    c.written_equations.ensures))
