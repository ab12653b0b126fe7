use Rattle.std.proofs.Common.{◌+◌, subst, sym, take}
use Rattle.std.specs.List.{AllZip}
use Rattle.wb_names_rows.proofs.ZipLemmas.{zip_more}
use Rattle.wb_tests_unions.specs.Inner.Lent.{IsPartFrom}
use Rattle.wb_tests_unions.proofs.lent.parts_of.Goals as goal

pub lents-preserved : goal.lents-preserved
lents-preserved c =
    let R = IsPartFrom in
    subst (AllZip R (take (c.lents.lent-index + 1) c.args.lents.now)) (sym c.in_ok-push.ensures.ok)
    (zip_more R c.args.lents.now c.lents.parts.items c.lents.lent-index c.lent-item.result c.part_of-part.result
    c.lents.invariant c.lents-test.true c.lent-item.is c.part_of-part.ensures)
