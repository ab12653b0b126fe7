use Rattle.std.proofs.Common.{sym, subst, take, ◌+◌}
use Rattle.std.specs.List.{AllZip}
use Rattle.wb_names_rows.proofs.ZipLemmas.{zip_more}
use Rattle.wb_compose.specs.Inner.Cuts.{IsCut}
use Rattle.wb_compose.proofs.cuts.cuts_of.Goals as goal

pub extensions-preserved : goal.extensions-preserved
extensions-preserved c =
    let host = c.args.host.now in
    subst (AllZip (IsCut host.attributes.now host.grammar.now) (take (c.extensions.extension-index + 1) c.args.extensions.now))
    (sym c.in_ok-push.ensures.ok) (zip_more (IsCut host.attributes.now host.grammar.now) c.args.extensions.now
    c.extensions.additions.items c.extensions.extension-index c.extension-item.result c.cut_of.result c.extensions.invariant
    c.extensions-test.true c.extension-item.is c.cut_of.ensures)
