use Rattle.std.proofs.Common.{◌+◌, subst, sym, take}
use Rattle.std.specs.List.{AllZip}
use Rattle.wb_names_rows.proofs.ZipLemmas.{zip_more}
use Rattle.wb_tests_unions.specs.Inner.Lent.{IsAdded}
use Rattle.wb_tests_unions.proofs.additions.additions_of.Goals as goal

pub extensions-preserved : goal.extensions-preserved
extensions-preserved c =
    let R = IsAdded in
    subst (AllZip R (take (c.extensions.extension-index + 1) c.args.extensions.now)) (sym c.in_ok-push.ensures.ok)
    (zip_more R c.args.extensions.now c.extensions.additions.items c.extensions.extension-index c.extension-item.result c.addition_of-addition.result
    c.extensions.invariant c.extensions-test.true c.extension-item.is c.addition_of-addition.ensures)
