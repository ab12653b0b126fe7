use Rattle.std.proofs.Common.{◌≡◌, List, Some, length, slice_get, subst, arith}
use Rattle.wb_flow.proofs.AddingLemmas.{adds_start_below, adds_more_below, read_item}
use Rattle.wb_flow_theory.specs.Modular.{IsProduction}
use Rattle.wb_explain_flows_lists.specs.Inner.Found.{IsMissingOf}
use Rattle.wb_explain_flows_lists.proofs.MissingLemmas.{missing_all, of_production}
use Rattle.wb_syntax_resolved.specs.declared.production.Production.{Production}
use Rattle.wb_explain_flows_lists.proofs.missing.add_all.Goals as goal

pub productions-init : goal.productions-init
productions-init c =
    let a = c.args.scope.now.attributes.now in
    adds_start_below c.args.found.now.items (λ k m. (p : Production) × IsProduction a k p × IsMissingOf a k p m)

pub productions-preserved : goal.productions-preserved
productions-preserved c =
    let a = c.args.scope.now.attributes.now in
    let items = c.as_slice-productions.result.now in
    let n = c.productions.number in
    let p = c.index-productions-number.result in
    let there = subst (λ (z : List Production). slice_get z n ≡ Some p) c.as_slice-productions.ensures
    (read_item items n p c.productions-test.true c.index-productions-number.is) in
    adds_more_below c.args.found.now.items c.productions.found.items c.add_of.new.found.items
    (λ k m. (q : Production) × IsProduction a k q × IsMissingOf a k q m) n c.productions.invariant
    (of_production a c.productions.found.items c.add_of.new.found.items n p there c.in_ok-add_of.ensures)

pub returns : goal.returns
returns c =
    let a = c.args.scope.now.attributes.now in
    let items = c.as_slice-productions.result.now in
    let ended : c.productions.number ≡ length items = omega arith in
    missing_all a c.args.found.now.items c.productions.found.items c.productions.number items c.as_slice-productions.ensures ended
    c.productions.invariant
