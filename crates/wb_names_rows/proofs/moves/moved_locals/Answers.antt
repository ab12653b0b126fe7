use Rattle.std.proofs.Common.{sym, subst, take, ◌+◌}
use Rattle.std.specs.List.{AllZip}
use Rattle.wb_names_rows.specs.Moves.{IsLocalNow, LocalIsWithin}
use Rattle.wb_names_rows.proofs.ZipLemmas.{zip_more, zip_all}
use Rattle.wb_names_rows.proofs.moves.moved_locals.Goals as goal

pub loop-local-preserved : goal.loop-local-preserved
loop-local-preserved c =
    subst (AllZip (IsLocalNow c.args.moves.now) (take (c.loop-local.local-index + 1) c.args.locals.now)) (sym c.in_ok-push.ensures.ok)
    (zip_more (IsLocalNow c.args.moves.now) c.args.locals.now c.loop-local.made.items c.loop-local.local-index c.local-item.result
    c.in_ok-found.found c.loop-local.invariant c.loop-local-test.true c.local-item.is c.in_ok-found.ensures)

pub moved_local-requires : goal.moved_local-requires
moved_local-requires c =
    subst (LocalIsWithin c.args.moves.now) (sym c.local-item.is)
    (c.requires c.loop-local.local-index c.local-item.result c.loop-local-test.true)

pub returns : goal.returns
returns c =
    zip_all (IsLocalNow c.args.moves.now) c.args.locals.now c.loop-local.made.items c.loop-local.local-index c.loop-local.invariant
    c.loop-local-test.false
