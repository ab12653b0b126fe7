use Rattle.std.proofs.Common.{List, ℕ, All, subst, sym}
use Rattle.std.specs.List.{AllZip}
use Rattle.wb_syntax_resolved.specs.declared.equation.Equation.{Equation}
use Rattle.wb_syntax_resolved.specs.declared.production.Local.{Local}
use Rattle.wb_names_numbers_theory.specs.Files.{equations_on}
use Rattle.wb_names_rows.specs.declared.body.Body.{Body}
use Rattle.wb_names_rows.specs.Moves.{EquationIsWithin, IsEquationNow, IsLocalNow, LocalIsWithin}
use Rattle.wb_names.specs.Inner.Bodies.{IsWritten, KnowsLabels, file_of, labels_with}
use Rattle.wb_names.proofs.BaseParts.{equations_within, locals_within}
use Rattle.wb_names.proofs.KnownLabels.{base_known}
use Rattle.wb_names.proofs.production.extended_body.Goals as goal

pub moved_locals-requires : goal.moved_locals-requires
moved_locals-requires c =
    let context = c.args.context.now in
    subst (All (LocalIsWithin context.moves.now)) (sym c.as_slice.ensures)
    (locals_within (file_of context) context.scope.now context.moves.now c.requires.context.numbers.tables
    c.requires.context.right.is_file.base
    c.args.production.now c.requires.there)

pub moved_equations-requires : goal.moved_equations-requires
moved_equations-requires c =
    let context = c.args.context.now in
    subst (All (EquationIsWithin context.moves.now)) (sym c.as_slice-2.ensures)
    (equations_within (file_of context) context.scope.now context.moves.now c.requires.context.numbers.tables
    c.requires.context.right.is_file.base
    c.args.production.now c.requires.there)

pub add_written-requires-clause-labels : goal.add_written-requires-clause-labels
add_written-requires-clause-labels c =
    let context = c.args.context.now in
    let file = file_of context in
    let p = c.args.production.now in
    let locals : AllZip (IsLocalNow context.moves.now) p.locals c.in_ok-locals.locals.items =
    subst (λ (z : List Local). AllZip (IsLocalNow context.moves.now) z c.in_ok-locals.locals.items) c.as_slice.ensures
    c.in_ok-locals.ensures in
    subst (λ (z : List ℕ). KnowsLabels file z (labels_with c.args.children.now c.in_ok-locals.locals.items (equations_on z file.items)))
    (sym c.as_slice-3.ensures)
    (base_known file c.requires.context.right.hold.once context.moves.now p c.args.children.now c.in_ok-locals.locals.items c.requires.there
    c.requires.children locals)

pub returns-in-Ok-add_written : goal.returns-in-Ok-add_written
returns-in-Ok-add_written c =
    let context = c.args.context.now in
    let file = file_of context in
    let m = context.moves.now in
    let moved : Body =
    record { locals = c.in_ok-locals.locals; forwards = c.new.result; equations = c.in-Ok.equations } in
    record {
      moved = moved;
      locals = subst (λ (z : List Local). AllZip (IsLocalNow m) z c.in_ok-locals.locals.items) c.as_slice.ensures c.in_ok-locals.ensures;
      equations = subst (λ (z : List Equation). AllZip (IsEquationNow m) z c.in-Ok.equations.items) c.as_slice-2.ensures
          c.in-Ok.ensures;
      written = subst
          (λ (z : List ℕ). IsWritten context.scope.now c.args.children.now (equations_on z file.items) moved c.add_written.new.body)
          c.as_slice-3.ensures c.in-Ok-add_written.ensures;
    }
