use Rattle.std.proofs.Common.{Some, ap, refl, subst, sym, ◌∙◌}
use Rattle.std.proofs.lemmas.Option.{slice_get-get_or}
use Rattle.wb_base.specs.declared.symbol.Kind.{Kind}
use Rattle.wb_base.specs.declared.symbol.Kind.TheVariants as kind
use Rattle.wb_names_rows.specs.Moves.{IsKindNow, KindIsWithin}
use Rattle.wb_names_rows.proofs.moves.moved_kind.Goals as goal

pub returns-in-Tree : goal.returns-in-Tree
returns-in-Tree c =
    let m = c.args.moves.now in
    let within = subst (KindIsWithin m) c.in-Tree.is c.requires in
    subst (λ (z : Kind). IsKindNow m z (kind.Tree c.index.result.now)) (sym c.in-Tree.is) (
      c.index.result.now,
      slice_get-get_or m.nonterminals.items c.in-Tree.number c.index.result.now within ∙ ap Some (sym c.index.ensures),
      refl,
    )
