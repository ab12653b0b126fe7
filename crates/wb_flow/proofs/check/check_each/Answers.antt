use Rattle.std.proofs.Common.{◌≡◌, ◌≤◌, List, Some, length, slice_get, sym, subst, arith}
use Rattle.wb_lemmas.proofs.Refusals.{handed_on}
use Rattle.wb_flow.specs.Inner.Sources.{KeepsAll, KnowsCycle, RefusesReads, RefusesAnyReads}
use Rattle.wb_flow.proofs.AddingLemmas.{read_item}
use Rattle.wb_flow.proofs.CheckLemmas.{knows_all, knows_more}
use Rattle.wb_flow.proofs.EachLemmas.{each_more, each_in}
use Rattle.wb_syntax_resolved.specs.declared.production.Production.{Production}
use Rattle.wb_flow.proofs.check.check_each.Goals as goal

pub returns-in_err-check_production-clause-refused : goal.returns-in_err-check_production-clause-refused
returns-in_err-check_production-clause-refused c =
    let a = c.args.scope.now.attributes.now in
    let items = c.as_slice-productions.result.now in
    let n = c.productions.number in
    let p = c.index-productions-number.result in
    let there = subst (λ (z : List Production). slice_get z n ≡ Some p) c.as_slice-productions.ensures
    (read_item items n p c.productions-test.true c.index-productions-number.is) in
    handed_on (RefusesReads a n p) (RefusesAnyReads a) c.from_residual.result c.in_err-check_production.field-0.0 c.from_residual.ensures.1
    (λ e is. (n, p, there, is)) c.in_err-check_production.ensures.refused

pub productions-init : goal.productions-init
productions-init c = (
  (λ k p lt at. absurd (omega (arith, lt))),
  subst (KnowsCycle c.args.scope.now.attributes.now 0) (sym c.requires.none) (λ k p lt at. absurd (omega (arith, lt))),
)

pub productions-preserved : goal.productions-preserved
productions-preserved c =
    let a = c.args.scope.now.attributes.now in
    let items = c.as_slice-productions.result.now in
    let n = c.productions.number in
    let p = c.index-productions-number.result in
    let at = read_item items n p c.productions-test.true c.index-productions-number.is in
    let there = subst (λ (z : List Production). slice_get z n ≡ Some p) c.as_slice-productions.ensures at in (
      each_more items (KeepsAll a) n p at c.productions.invariant.0 c.in_ok-check_production.ensures.ok.0,
      knows_more a n p there c.productions.cycle c.check_production.new.cycle c.productions.invariant.1 c.in_ok-check_production.ensures.ok.1,
    )

pub returns-clause-ok : goal.returns-clause-ok
returns-clause-ok c =
    let a = c.args.scope.now.attributes.now in
    let items = c.as_slice-productions.result.now in
    let ended : length items ≤ c.productions.number = omega arith in (
      each_in items (KeepsAll a) a.productions c.as_slice-productions.ensures c.productions.number ended c.productions.invariant.0,
      knows_all a c.productions.number c.productions.cycle
          (subst (λ (z : List Production). length z ≤ c.productions.number) c.as_slice-productions.ensures ended) c.productions.invariant.1,
    )

pub check_production-requires-clause-there : goal.check_production-requires-clause-there
check_production-requires-clause-there c =
    subst (λ (z : List Production). slice_get z c.productions.number ≡ Some c.index-productions-number.result)
    c.as_slice-productions.ensures
    (read_item c.as_slice-productions.result.now c.productions.number c.index-productions-number.result c.productions-test.true
    c.index-productions-number.is)
