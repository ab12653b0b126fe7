use Rattle.std.proofs.Common.{List, ap, refl, subst, sym}
use Rattle.std.specs.List.{AllZip}
use Rattle.std.proofs.lemmas.Result.{on_ok_weaker}
use Rattle.wb_syntax_resolved.specs.declared.production.Child.{Child}
use Rattle.wb_syntax_resolved.specs.declared.production.Production.{Production}
use Rattle.wb_names_rows.specs.Moves.{IsChildNow}
use Rattle.wb_names_rows.specs.Row.{row_of}
use Rattle.wb_names.specs.Inner.Bodies.{IsExtendedBody, file_of}
use Rattle.wb_names.specs.Inner.Now.{IsExtendedNow}
use Rattle.wb_names.specs.Inner.Rows.{has_concrete, is_concrete}
use Rattle.wb_names.proofs.BodyLemmas.{MovedParts, extended_now}
use Rattle.wb_names.proofs.ProductionsGrouped.{row_added}
use Rattle.wb_names.proofs.production.add_extended.Goals as goal

pub extended_body-requires-clause-children : goal.extended_body-requires-clause-children
extended_body-requires-clause-children c =
    subst (AllZip (IsChildNow c.args.context.now.moves.now) c.args.production.now.children) (sym c.as_slice.ensures)
    c.in_ok-head.ensures.children

pub returns-in-Ok : goal.returns-in-Ok
returns-in-Ok c =
    let context = c.args.context.now in
    let file = file_of context in
    let s = context.scope.now in
    let m = context.moves.now in
    let p = c.args.production.now in
    let moved = c.in_ok-head.ensures in
    let body = c.in-Ok.body in
    let row : Production = row_of c.in_ok-head.head body in
    let parts : MovedParts file s m p row body = record {
      name = moved.name;
      owner_is = moved.owner_is;
      role = moved.role;
      left = moved.left;
      children = moved.children;
      forward = moved.forward;
      locals = refl;
      equations = refl;
    } in
    let holds = extended_now file s m p row body parts
    (subst (λ (z : List Child). IsExtendedBody file s m p z body) c.as_slice.ensures c.in-Ok.ensures) in
    on_ok_weaker c.add.result
    (row_added has_concrete (IsExtendedNow file s m) p row c.args.made.now c.add.new.made (ap is_concrete holds.role) holds)
    c.add.ensures
