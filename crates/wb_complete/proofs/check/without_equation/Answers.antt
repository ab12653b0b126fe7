use Rattle.std.proofs.Common.{◌≡◌, ◌≤◌, List, Some, length, slice_get, subst, arith}
use Rattle.std.specs.Prelude.{IfNone, IfSome}
use Rattle.wb_complete.specs.Refusals.{LacksTop}
use Rattle.wb_flow_theory.specs.WellDefined.{DefinesTop}
use Rattle.wb_flow.proofs.AddingLemmas.{read_item}
use Rattle.wb_flow.proofs.EachLemmas.{each_more, each_in}
use Rattle.wb_syntax_resolved.specs.declared.production.Production.{Production}
use Rattle.wb_complete.proofs.check.without_equation.Goals as goal

pub returns-in-Some-clause-some : goal.returns-in-Some-clause-some
returns-in-Some-clause-some c =
    let p = c.index-productions-number.result in
    let there = subst (λ (z : List Production). slice_get z c.productions.number ≡ Some p) c.as_slice-productions.ensures
    (read_item c.as_slice-productions.result.now c.productions.number p c.productions-test.true c.index-productions-number.is) in
    (p, there, subst (λ o. IfSome o (LacksTop c.args.scope.now.attributes.now p)) c.in-Some.is c.in_ok-found.ensures.some)

pub productions-preserved : goal.productions-preserved
productions-preserved c =
    let items = c.as_slice-productions.result.now in
    let p = c.index-productions-number.result in
    each_more items (DefinesTop c.args.scope.now.attributes.now) c.productions.number p
    (read_item items c.productions.number p c.productions-test.true c.index-productions-number.is) c.productions.invariant
    (subst (λ o. IfNone o (DefinesTop c.args.scope.now.attributes.now p)) c.in_default.is c.in_ok-found.ensures.none)

pub returns-clause-none : goal.returns-clause-none
returns-clause-none c =
    let items = c.as_slice-productions.result.now in
    let ended : length items ≤ c.productions.number = omega arith in
    each_in items (DefinesTop c.args.scope.now.attributes.now) c.args.scope.now.attributes.now.productions c.as_slice-productions.ensures
    c.productions.number ended c.productions.invariant
