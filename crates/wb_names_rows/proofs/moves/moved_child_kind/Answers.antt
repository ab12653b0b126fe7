use Rattle.std.proofs.Common.{Some, ap, refl, subst, sym, ◌∙◌}
use Rattle.std.proofs.lemmas.Option.{slice_get-get_or}
use Rattle.wb_syntax_resolved.specs.declared.production.ChildKind.{ChildKind}
use Rattle.wb_syntax_resolved.specs.declared.production.ChildKind.TheVariants as child
use Rattle.wb_names_rows.specs.Moves.{IsChildKindNow, ChildKindIsWithin}
use Rattle.wb_names_rows.proofs.moves.moved_child_kind.Goals as goal

pub returns-in-Terminal : goal.returns-in-Terminal
returns-in-Terminal c =
    let m = c.args.moves.now in
    let within = subst (ChildKindIsWithin m) c.in-Terminal.is c.requires in
    subst (λ (z : ChildKind). IsChildKindNow m z (child.Terminal c.index.result.now)) (sym c.in-Terminal.is) (
      c.index.result.now,
      slice_get-get_or m.terminals.items c.in-Terminal.number c.index.result.now within ∙ ap Some (sym c.index.ensures),
      refl,
    )

pub moved_kind-requires : goal.moved_kind-requires
moved_kind-requires c = subst (ChildKindIsWithin c.args.moves.now) c.in-Value.is c.requires

pub returns-in-Value : goal.returns-in-Value
returns-in-Value c =
    subst (λ (z : ChildKind). IsChildKindNow c.args.moves.now z (child.Value c.moved_kind.result)) (sym c.in-Value.is)
    (c.moved_kind.result, c.moved_kind.ensures, refl)
