use Rattle.std.proofs.Common.{◌≡◌, List, Some, slice_get, subst}
use Rattle.wb_flow.proofs.AddingLemmas.{read_item}
use Rattle.wb_explain_flows_lists.proofs.LackLemmas.{keeps_both}
use Rattle.wb_syntax_resolved.specs.declared.production.Production.{Production}
use Rattle.wb_explain_flows_lists.proofs.handed.add_all.Goals as goal

pub productions-init : goal.productions-init
productions-init c = λ before. before

pub add_of-requires-clause-there : goal.add_of-requires-clause-there
add_of-requires-clause-there c =
    let items = c.as_slice-productions.result.now in
    subst (λ (z : List Production). slice_get z c.productions.number ≡ Some c.index-productions-number.result)
    c.as_slice-productions.ensures
    (read_item items c.productions.number c.index-productions-number.result c.productions-test.true c.index-productions-number.is)

pub productions-preserved : goal.productions-preserved
productions-preserved c =
    keeps_both c.args.scope.now.attributes.now c.args.found.now.items c.productions.found.items c.add_of.new.found.items
    c.productions.invariant c.in_ok-add_of.ensures
