use Rattle.std.proofs.Common.{sym, subst, take, ◌+◌}
use Rattle.std.specs.List.{AllZip}
use Rattle.wb_names_rows.proofs.ZipLemmas.{zip_more}
use Rattle.wb_compose.specs.Inner.Lending.{IsLent}
use Rattle.wb_compose.proofs.additions.additions_of.Goals as goal

pub extensions-preserved : goal.extensions-preserved
extensions-preserved c =
    subst (AllZip IsLent (take (c.extensions.extension-index + 1) c.args.extensions.now)) (sym c.in_ok-push.ensures.ok)
    (zip_more IsLent c.args.extensions.now c.extensions.additions.items c.extensions.extension-index c.extension-item.result
    c.addition_of.result c.extensions.invariant c.extensions-test.true c.extension-item.is c.addition_of.ensures)
