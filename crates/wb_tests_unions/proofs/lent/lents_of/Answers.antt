use Rattle.std.proofs.Common.{◌+◌, subst, sym, take}
use Rattle.std.specs.List.{AllZip}
use Rattle.wb_names_rows.proofs.ZipLemmas.{zip_more}
use Rattle.wb_tests_unions.specs.Inner.Lent.{IsLentFrom}
use Rattle.wb_tests_unions.proofs.lent.lents_of.Goals as goal

pub founds-preserved : goal.founds-preserved
founds-preserved c =
    let R = (IsLentFrom c.args.own.now) in
    subst (AllZip R (take (c.founds.found-index + 1) c.args.founds.now)) (sym c.in_ok-push.ensures.ok)
    (zip_more R c.args.founds.now c.founds.lents.items c.founds.found-index c.found-item.result c.lent_of-lent.result
    c.founds.invariant c.founds-test.true c.found-item.is c.lent_of-lent.ensures)
