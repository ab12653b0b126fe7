use Rattle.std.proofs.Common.{◌≡◌, List, Some, slice_get, refl, subst}
use Rattle.wb_flow.proofs.AddingLemmas.{read_item}
use Rattle.wb_explain_flows_lists.proofs.LackLemmas.{keeps_both}
use Rattle.wb_explain_flows_lists.specs.Handed.{by_local}
use Rattle.wb_syntax_resolved.specs.declared.production.Local.{Local}
use Rattle.wb_explain_flows_lists.proofs.handed.add_locals.Goals as goal

pub locals-init : goal.locals-init
locals-init c = λ before. before

pub add_nodes-requires-clause-rule : goal.add_nodes-requires-clause-rule
add_nodes-requires-clause-rule c =
    let items = c.as_slice-local-items.result.now in
    let k = c.locals.local-index in
    let e = c.local-item.result in
    by_local k e
    (subst (λ (z : List Local). slice_get z k ≡ Some e) c.as_slice-local-items.ensures
    (read_item items k e c.locals-test.true c.local-item.is))
    refl refl c.as_slice.ensures

pub locals-preserved : goal.locals-preserved
locals-preserved c =
    keeps_both c.args.spot.now.scope.now.attributes.now c.args.found.now.items c.locals.found.items c.add_nodes.new.found.items
    c.locals.invariant c.in_ok-add_nodes.ensures
