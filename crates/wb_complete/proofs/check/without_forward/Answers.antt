use Rattle.std.proofs.Common.{◌≡◌, List, Some, false, is_some, refl, slice_get, subst}
use Rattle.wb_flow_theory.specs.Modular.{ForwardsAsExtension}
use Rattle.wb_flow_theory.specs.Rules.{Forwards}
use Rattle.wb_flow.proofs.AddingLemmas.{read_item}
use Rattle.wb_flow.proofs.EachLemmas.{each_more, each_in}
use Rattle.wb_complete.proofs.AnswerLemmas.{if_none, if_some}
use Rattle.wb_complete.specs.Inner.Tests.{ForwardsWhereNeeded}
use Rattle.wb_syntax_resolved.specs.declared.production.Production.{Production}
use Rattle.wb_complete.proofs.check.without_forward.Goals as goal
use Rattle.wb_complete.proofs.check.without_forward.Goals.{else-is_none-via-then-is_none+else-must_forward, else-is_none-via-else-is_none}

pub productions-preserved : goal.productions-preserved
productions-preserved c =
    let items = c.as_slice-productions.result.now in
    let p = c.index-productions-number.result in
    each_more items (ForwardsWhereNeeded c.args.scope.now.attributes.now c.in-Some.owner) c.productions.number p
    (read_item items c.productions.number p c.productions-test.true c.index-productions-number.is) c.productions.invariant
    (λ must. elim c.else-is_none.branch [
      | else-is_none-via-then-is_none+else-must_forward w ↦ absurd (let bad = w.if-must_forward.ensures.1 must in cc)
      | else-is_none-via-else-is_none w ↦ w.if-is_none.ensures
    ])

pub returns-in_default-clause-none : goal.returns-in_default-clause-none
returns-in_default-clause-none c = if_none (ForwardsAsExtension c.args.scope.now.attributes.now) c.args.extension c.in_default.is

pub returns-clause-none : goal.returns-clause-none
returns-clause-none c =
    let a = c.args.scope.now.attributes.now in
    if_some (ForwardsAsExtension a) c.args.extension c.in-Some.owner c.in-Some.is
    (each_in c.as_slice-productions.result.now (ForwardsWhereNeeded a c.in-Some.owner) a.productions c.as_slice-productions.ensures
    c.productions.number c.productions-test.false c.productions.invariant)

pub returns-then-must_forward-clause-some : goal.returns-then-must_forward-clause-some
returns-then-must_forward-clause-some c =
    let p = c.index-productions-number.result in
    let there = subst (λ (z : List Production). slice_get z c.productions.number ≡ Some p) c.as_slice-productions.ensures
    (read_item c.as_slice-productions.result.now c.productions.number p c.productions-test.true c.index-productions-number.is) in
    let lacks : ¬ Forwards p = λ forwards. (let bad : is_some p.forward ≡ false = c.if-is_none.ensures in cc) in
    (c.in-Some.owner, c.in-Some.is, (p, there, (c.if-must_forward.ensures.0 refl, lacks)))
