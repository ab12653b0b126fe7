use Rattle.std.proofs.Common.{◌+◌, subst, sym, take}
use Rattle.std.specs.List.{AllZip}
use Rattle.wb_names_rows.proofs.ZipLemmas.{zip_more}
use Rattle.wb_tests_unions.specs.Inner.Lent.{AreSetsFor}
use Rattle.wb_tests_unions.proofs.lent.sets_of.Goals as goal

pub parts-preserved : goal.parts-preserved
parts-preserved c =
    let R = AreSetsFor in
    subst (AllZip R (take (c.parts.part-index + 1) c.args.parts.now)) (sym c.in_ok-push.ensures.ok)
    (zip_more R c.args.parts.now c.parts.sets.items c.parts.part-index c.part-item.result c.in_ok-set.set
    c.parts.invariant c.parts-test.true c.part-item.is c.in_ok-set.ensures)
