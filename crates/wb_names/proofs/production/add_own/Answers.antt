use Rattle.std.proofs.Common.{[], ◌∙◌, ℕ, List, Some, All, Contains, ap, refl, sym, subst}
use Rattle.std.specs.List.{AllZip}
use Rattle.std.proofs.lemmas.Result.{on_ok_weaker}
use Rattle.wb_syntax_resolved.specs.declared.production.Child.{Child}
use Rattle.wb_syntax_resolved.specs.declared.production.Local.{Local}
use Rattle.wb_syntax_resolved.specs.declared.production.Production.{Production}
use Rattle.wb_syntax.specs.declared.production.Child as written
use Rattle.wb_names_theory.specs.Declarations.{ProductionDeclaration}
use Rattle.wb_names_numbers_theory.specs.Files.{equations_on}
use Rattle.wb_names_numbers_theory.specs.Numbering.{Numbering}
use Rattle.wb_names_rows.specs.declared.body.Body.{Body}
use Rattle.wb_names_rows.specs.Scope.{IsFoundChild, KindIsThere}
use Rattle.wb_names.specs.Inner.Bodies.{IsDeclaredBody, IsWritten, KnowsLabels, file_of, labels_with}
use Rattle.wb_names.specs.Inner.Now.{IsDeclaredNow}
use Rattle.wb_names.specs.Inner.Rows.{declares_concrete, is_concrete}
use Rattle.wb_names.proofs.BodyLemmas.{DeclaredParts, declared_now, none_left}
use Rattle.wb_names.proofs.EquationsThere.{children_there, left_there}
use Rattle.wb_names.proofs.KnownLabels.{own_known}
use Rattle.wb_names.proofs.ProductionsGrouped.{row_added}
use Rattle.wb_names.proofs.ScopeNumbering.{found_labels}
use Rattle.wb_names.proofs.production.add_own.Goals as goal

pub written_children-requires : goal.written_children-requires
written_children-requires c =
    let context = c.args.context.now in
    let x : ProductionDeclaration = record { role = c.args.role; production = c.args.production.now } in
    subst (All (λ (z : written.Child). KindIsThere context.scope.now z.kind)) (sym c.as_slice.ensures)
    (children_there (file_of context) context.scope.now c.requires.context.numbers.there c.requires.context.right.hold.meant x
    c.requires.there)

pub add_written-added-requires-clause-labels : goal.add_written-added-requires-clause-labels
add_written-added-requires-clause-labels c =
    let context = c.args.context.now in
    let file = file_of context in
    let x : ProductionDeclaration = record { role = c.args.role; production = c.args.production.now } in
    let P : List ℕ → List Child → List Local → Type 0 =
    λ name children locals. KnowsLabels file name (labels_with children locals (equations_on name file.items)) in
    let found : (n : Numbering) → AllZip (IsFoundChild context.scope.now n) x.production.children c.in-Ok.children =
    λ n. subst (λ (z : List written.Child). AllZip (IsFoundChild context.scope.now n) z c.in-Ok.children) c.as_slice.ensures
    (c.in-Ok.ensures n) in
    subst (λ (z : List Local). P c.as_slice-own.result.now c.as_slice-2.result.now z) (sym c.new.ensures.items)
    (subst (λ (z : List ℕ). P z c.as_slice-2.result.now []) (sym c.as_slice-own.ensures)
    (subst (λ (z : List Child). P x.production.name z []) (sym c.as_slice-2.ensures)
    (own_known file c.requires.context.right.hold.once x c.in-Ok.children c.requires.there
    (found_labels context.scope.now x.production.children c.in-Ok.children found))))

pub number_of-requires : goal.number_of-requires
number_of-requires c =
    let context = c.args.context.now in
    let x : ProductionDeclaration = record { role = c.args.role; production = c.args.production.now } in
    subst (Contains context.scope.now.nonterminals) (sym c.as_slice-3.ensures)
    (left_there (file_of context) context.scope.now c.requires.context.numbers.there c.requires.context.right.hold.meant x c.requires.there)

pub returns-in-Ok-added : goal.returns-in-Ok-added
returns-in-Ok-added c =
    let context = c.args.context.now in
    let file = file_of context in
    let s = context.scope.now in
    let m = context.moves.now in
    let x : ProductionDeclaration = record { role = c.args.role; production = c.args.production.now } in
    let empty : Body = record { locals = c.new.result; forwards = c.new-2.result; equations = c.new-3.result } in
    let body = c.add_written-added.new.body in
    let rest = c.pop.new.self in
    let row : Production = record {
      name = c.in_ok-name.name;
      owner = context.file.owner;
      role = c.numbered_role.result;
      left = c.number_of.result;
      children = c.in-Ok.children;
      locals = body.locals.items;
      forward = c.pop.result;
      equations = body.equations.items;
    } in
    let declared : IsDeclaredBody file s x.production.name c.in-Ok.children body = record {
      empty = empty;
      no_locals = c.new.ensures.items;
      no_forwards = c.new-2.ensures.items;
      no_equations = c.new-3.ensures.items;
      written = subst (λ (z : List Child). IsWritten s z (equations_on x.production.name file.items) empty body) c.as_slice-2.ensures
          (subst (λ (z : List ℕ). IsWritten s c.as_slice-2.result.now (equations_on z file.items) empty body) c.as_slice-own.ensures
          c.in-Ok-added.ensures);
    } in
    let parts : DeclaredParts file s m x row body = record {
      name = c.in_ok-name.ensures.ok;
      owner_is = refl;
      role = c.numbered_role.ensures;
      left = c.number_of.ensures ∙ ap Some c.as_slice-3.ensures;
      children = λ n. subst (λ (z : List written.Child). AllZip (IsFoundChild s n) z c.in-Ok.children) c.as_slice.ensures
          (c.in-Ok.ensures n);
      left_over = rest.items;
      forward = c.pop.ensures.items;
      all_taken = λ e. sym rest.ok.0 ∙ none_left c.pop.result _ _ _ c.pop.ensures.cases e;
      locals = refl;
      equations = refl;
    } in
    let holds = declared_now file s m c.requires.context.right.hold.once x row body parts declared in
    on_ok_weaker c.add.result
    (row_added declares_concrete (IsDeclaredNow file s m) x row c.args.made.now c.add.new.made (ap is_concrete holds.role) holds)
    c.add.ensures
