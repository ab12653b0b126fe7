use Rattle.std.proofs.Common.{sym, subst, take, ◌+◌}
use Rattle.std.specs.List.{AllZip}
use Rattle.wb_syntax_resolved.specs.declared.production.Child.{Child}
use Rattle.wb_names_rows.specs.Moves.{IsChildNow, ChildKindIsWithin}
use Rattle.wb_names_rows.proofs.ZipLemmas.{zip_more, zip_all}
use Rattle.wb_names_rows.proofs.moves.moved_children.Goals as goal

pub loop-child-preserved : goal.loop-child-preserved
loop-child-preserved c =
    subst (AllZip (IsChildNow c.args.moves.now) (take (c.loop-child.child-index + 1) c.args.children.now)) (sym c.in_ok-push.ensures.ok)
    (zip_more (IsChildNow c.args.moves.now) c.args.children.now c.loop-child.made.items c.loop-child.child-index c.child-item.result
    c.in_ok-found.found c.loop-child.invariant c.loop-child-test.true
    c.child-item.is c.in_ok-found.ensures)

pub moved_child-requires : goal.moved_child-requires
moved_child-requires c =
    subst (λ (z : Child). ChildKindIsWithin c.args.moves.now z.kind) (sym c.child-item.is)
    (c.requires c.loop-child.child-index c.child-item.result c.loop-child-test.true)

pub returns : goal.returns
returns c =
    subst (AllZip (IsChildNow c.args.moves.now) c.args.children.now) (sym c.from_vec.ensures)
    (zip_all (IsChildNow c.args.moves.now) c.args.children.now c.loop-child.made.items c.loop-child.child-index c.loop-child.invariant
    c.loop-child-test.false)
