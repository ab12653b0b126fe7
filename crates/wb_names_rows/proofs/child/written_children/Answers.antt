use Rattle.std.proofs.Common.{sym, subst, take, ◌+◌}
use Rattle.std.specs.List.{AllZip}
use Rattle.wb_syntax.specs.declared.production.Child.{Child}
use Rattle.wb_names_rows.specs.Scope.{IsFoundChild, KindIsThere}
use Rattle.wb_names_rows.proofs.ZipLemmas.{zip_more, zip_all}
use Rattle.wb_names_rows.proofs.child.written_children.Goals as goal

pub loop-child-preserved : goal.loop-child-preserved
loop-child-preserved c = λ n.
    subst (AllZip (IsFoundChild c.args.scope.now n) (take (c.loop-child.child-index + 1) c.args.children.now)) (sym c.in_ok-push.ensures.ok)
    (zip_more (IsFoundChild c.args.scope.now n) c.args.children.now c.loop-child.made.items c.loop-child.child-index c.child-item.result
    c.in_ok-found.found (c.loop-child.invariant n) c.loop-child-test.true c.child-item.is (c.in_ok-found.ensures n))

pub written_child-requires : goal.written_child-requires
written_child-requires c =
    subst (λ (z : Child). KindIsThere c.args.scope.now z.kind) (sym c.child-item.is)
    (c.requires c.loop-child.child-index c.child-item.result c.loop-child-test.true)

pub returns : goal.returns
returns c = λ n.
    subst (AllZip (IsFoundChild c.args.scope.now n) c.args.children.now) (sym c.from_vec.ensures)
    (zip_all (IsFoundChild c.args.scope.now n) c.args.children.now c.loop-child.made.items c.loop-child.child-index
    (c.loop-child.invariant n) c.loop-child-test.false)
