use Rattle.std.proofs.Common.{◌≡◌, ◌∙◌, [], Some, drop, length, refl, sym, ap, arith}
use Rattle.std.proofs.lemmas.List.{drop_all}
use Rattle.std.proofs.lemmas.Option.{slice_get_past}
use Rattle.wb_lemmas.proofs.Places.{read_at}
use Rattle.wb_compose_theory_lists.specs.Numbers.{locals_in}
use Rattle.wb_compose_attributes.specs.Lent.{equations_in}
use Rattle.wb_compose_attributes.specs.Inner.Written.{row_on}
use Rattle.wb_compose_attributes.proofs.written.writing_on.Goals as goal

there : (c : goal.After-writing_behind) → Some c.index-rows-on.result ≡ row_on c.args.on.now c.args.addition.now
there c = let rows = c.rows_on-rows.result.now in
    sym (read_at rows rows c.args.on.now.number c.index-rows-on.result refl c.if-on-rows.true c.index-rows-on.is) ∙ c.rows_on-rows.ensures

pub returns-then-on-rows-clause-locals : goal.returns-then-on-rows-clause-locals
returns-then-on-rows-clause-locals c =
    c.writing_behind.ensures.locals ∙ ap (λ row. drop (length c.args.on.now.row.now.locals) (locals_in row)) (there c)

pub returns-then-on-rows-clause-equations : goal.returns-then-on-rows-clause-equations
returns-then-on-rows-clause-equations c =
    c.writing_behind.ensures.equations ∙ ap (λ row. drop (length c.args.on.now.row.now.equations) (equations_in row)) (there c)

pub returns-else-on-rows-clause-locals : goal.returns-else-on-rows-clause-locals
returns-else-on-rows-clause-locals c =
    let none = sym (slice_get_past c.rows_on-rows.result.now c.args.on.now.number c.if-on-rows.false) ∙ c.rows_on-rows.ensures in
    let own = length c.args.on.now.row.now.locals in
    sym (drop_all own [] (omega arith)) ∙ ap (λ row. drop own (locals_in row)) none

pub returns-else-on-rows-clause-equations : goal.returns-else-on-rows-clause-equations
returns-else-on-rows-clause-equations c =
    let none = sym (slice_get_past c.rows_on-rows.result.now c.args.on.now.number c.if-on-rows.false) ∙ c.rows_on-rows.ensures in
    let own = length c.args.on.now.row.now.equations in
    sym (drop_all own [] (omega arith)) ∙ ap (λ row. drop own (equations_in row)) none
