use Rattle.std.proofs.Common.{◌<◌, ◌∙◌, ℕ, List, All, Some, ap, refl, sym, subst}
use Rattle.std.specs.List.{AllZip}
use Rattle.std.proofs.lemmas.Option.{slice_get-get_or}
use Rattle.wb_syntax_resolved.specs.declared.production.Child.{Child}
use Rattle.wb_names_rows.specs.Moves.{ChildKindIsWithin, IsChildNow}
use Rattle.wb_names.specs.Inner.Bodies.{file_of}
use Rattle.wb_names.proofs.BaseParts.{children_within, forward_within, left_within}
use Rattle.wb_names.proofs.production.moved_head.Goals as goal

pub moved_children-requires : goal.moved_children-requires
moved_children-requires c =
    let context = c.args.context.now in
    subst (All (λ (z : Child). ChildKindIsWithin context.moves.now z.kind)) (sym c.as_slice.ensures)
    (children_within (file_of context) context.scope.now context.moves.now c.requires.context.numbers.tables
    c.requires.context.right.is_file.base
    c.args.production.now c.requires.there)

pub index-requires : goal.index-requires
index-requires c =
    let context = c.args.context.now in
    let p = c.args.production.now in
    subst (λ (z : ℕ). p.left < z) (sym context.moves.now.nonterminals.ok.0)
    (left_within (file_of context) context.scope.now context.moves.now c.requires.context.numbers.tables
    c.requires.context.right.is_file.base p c.requires.there)

pub moved_forwards-requires : goal.moved_forwards-requires
moved_forwards-requires c =
    let context = c.args.context.now in
    forward_within (file_of context) context.scope.now context.moves.now c.requires.context.numbers.tables
    c.requires.context.right.is_file.base
    c.args.production.now c.requires.there

pub returns-in-Ok-moved_forwards : goal.returns-in-Ok-moved_forwards
returns-in-Ok-moved_forwards c =
    let context = c.args.context.now in
    let m = context.moves.now in
    let p = c.args.production.now in
    let within = left_within (file_of context) context.scope.now m c.requires.context.numbers.tables
    c.requires.context.right.is_file.base p c.requires.there in
    record {
      name = c.in_ok-name.ensures.ok;
      owner_is = refl;
      role = refl;
      left = slice_get-get_or m.nonterminals.items p.left c.index.result.now within ∙ ap Some (sym c.index.ensures);
      children = subst (λ (z : List Child). AllZip (IsChildNow m) z c.in-Ok.children) c.as_slice.ensures c.in-Ok.ensures;
      forward = c.in-Ok-moved_forwards.ensures;
    }
