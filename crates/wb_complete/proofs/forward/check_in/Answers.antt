use Rattle.std.proofs.Common.{◌≡◌, ◌≤◌, List, Some, length, slice_get, refl, subst, arith}
use Rattle.wb_lemmas.proofs.Places.{read_at}
use Rattle.wb_lemmas.proofs.Refusals.{handed_on}
use Rattle.wb_flow.proofs.EachLemmas.{each_more, each_in}
use Rattle.wb_complete.specs.Inner.ForwardTests.{KeepsWhereBridging}
use Rattle.wb_complete.specs.ForwardRefusals.{IsTrueForwardRefusal}
use Rattle.wb_syntax_resolved.specs.declared.production.Production.{Production}
use Rattle.wb_complete.proofs.forward.check_in.Goals as goal

pub productions-preserved : goal.productions-preserved
productions-preserved c =
    let xs = c.as_slice-productions.result.now in
    let i = c.productions.number in
    let x = c.index-productions-number.result in
    each_more xs (KeepsWhereBridging c.args.scope.now.attributes.now c.args.extension) i x
    (read_at xs xs i x refl c.productions-test.true c.index-productions-number.is) c.productions.invariant
    c.in_ok-check_production.ensures.ok

pub returns-clause-ok : goal.returns-clause-ok
returns-clause-ok c number production there bridging =
    let a = c.args.scope.now.attributes.now in
    let ended : length c.as_slice-productions.result.now ≤ c.productions.number = omega arith in
    each_in c.as_slice-productions.result.now (KeepsWhereBridging a c.args.extension) a.productions
    c.as_slice-productions.ensures c.productions.number ended c.productions.invariant number production there bridging

pub check_production-requires-clause-there : goal.check_production-requires-clause-there
check_production-requires-clause-there c =
    let xs = c.as_slice-productions.result.now in
    let x = c.index-productions-number.result in
    subst (λ (z : List Production). slice_get z c.productions.number ≡ Some x) c.as_slice-productions.ensures
    (read_at xs xs c.productions.number x refl c.productions-test.true c.index-productions-number.is)

pub returns-in_err-check_production-clause-refused : goal.returns-in_err-check_production-clause-refused
returns-in_err-check_production-clause-refused c =
    let refuses = IsTrueForwardRefusal c.args.scope.now.attributes.now c.args.extension in
    handed_on refuses refuses c.from_residual.result c.in_err-check_production.field-0.0 c.from_residual.ensures.1 (λ e is. is)
    c.in_err-check_production.ensures.refused
