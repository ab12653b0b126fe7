use Rattle.wb_lemmas.proofs.Elements.{all_contained}
use Rattle.wb_syntax_expressions.specs.Expression.{IsWhole}
use Rattle.wb_syntax_resolved.specs.Named.{IsNamedEquation}
use Rattle.std.proofs.Common.{sym, ◌≡◌, Some, refl, subst}
use Rattle.wb_base.specs.declared.symbol.Kind.{Kind}
use Rattle.wb_lemmas.proofs.Refusals.{handed_on}
use Rattle.wb_syntax_resolved.specs.declared.equation.Equation.{Equation}
use Rattle.wb_types.specs.Expected.{attribute_of}
use Rattle.wb_types.specs.Expected as s
use Rattle.wb_types.specs.Kinds.{IsAttributeKind}
use Rattle.wb_types.specs.Inner.Passes.{Passes, Fails, SomeFails}
use Rattle.wb_types.proofs.PassLemmas.{some_fails, taken_more, each_taken, read_contained}
use Rattle.wb_types.proofs.check.check_equations.Goals as goal

pub check_expression-requires : goal.check_expression-requires
check_expression-requires c =
    let a = c.args.context.now.attributes.now in
    let production = c.args.context.now.production.now in
    let e = c.equation-item.result in
    let named = all_contained (IsNamedEquation a production) production.equations e c.requires.equations
    (read_contained c.as_slice-equation-items.result.now production.equations c.equations.equation-index e
    c.as_slice-equation-items.ensures c.equations-test.true c.equation-item.is) in
    subst IsWhole (sym c.as_slice.ensures) named.value.whole

pub equations-preserved-in_default : goal.equations-preserved-in_default
equations-preserved-in_default c =
    let a = c.args.context.now.attributes.now in
    let operations = c.args.context.now.operations.now in
    let production = c.args.context.now.production.now in
    let e = c.equation-item.result in
    taken_more (λ (z : Equation). (is : Kind) → IsAttributeKind a (attribute_of z.target) is
    → Passes c.args.context.now.rule a operations production z.nodes is)
    c.as_slice-equation-items.result.now c.equations.equation-index e c.equations.invariant c.equations-test.true c.equation-item.is
    (λ is of. absurd (c.in_default.not-Some is ((c.target_kind.ensures is).1 of)))

pub returns-in_err-check_expression-clause-refused : goal.returns-in_err-check_expression-clause-refused
returns-in_err-check_expression-clause-refused c =
    let a = c.args.context.now.attributes.now in
    let operations = c.args.context.now.operations.now in
    let production = c.args.context.now.production.now in
    let e = c.equation-item.result in
    let nodes = c.as_slice.result.now in
    let is = c.in-Some.kind in
    let of = (c.target_kind.ensures is).0 c.in-Some.is in
    handed_on (Fails c.args.context.now.rule a operations production nodes is e.offset) (SomeFails
    c.args.context.now.rule a operations production)
    c.from_residual.result c.in_err-check_expression.field-0.0 c.from_residual.ensures.1
    (some_fails c.args.context.now.rule a operations production nodes is e.offset
    (s.equation e
    (read_contained c.as_slice-equation-items.result.now production.equations c.equations.equation-index e
    c.as_slice-equation-items.ensures
    c.equations-test.true c.equation-item.is)
    c.as_slice.ensures of refl))
    c.in_err-check_expression.ensures.refused

pub equations-preserved : goal.equations-preserved
equations-preserved c =
    let a = c.args.context.now.attributes.now in
    let operations = c.args.context.now.operations.now in
    let production = c.args.context.now.production.now in
    let e = c.equation-item.result in
    taken_more (λ (z : Equation). (is : Kind) → IsAttributeKind a (attribute_of z.target) is
    → Passes c.args.context.now.rule a operations production z.nodes is)
    c.as_slice-equation-items.result.now c.equations.equation-index e c.equations.invariant c.equations-test.true c.equation-item.is
    (λ is of.
    let some : c.target_kind.result ≡ Some is = (c.target_kind.ensures is).1 of in
    let there = c.in-Some.is in
    let same : c.in-Some.kind ≡ is = cc in
    subst (Passes c.args.context.now.rule a operations production e.nodes) same
    (subst (λ z. Passes c.args.context.now.rule a operations production z c.in-Some.kind) c.as_slice.ensures
    c.in_ok-check_expression.ensures.ok))

pub returns-clause-ok : goal.returns-clause-ok
returns-clause-ok c = λ e is listed.
    let a = c.args.context.now.attributes.now in
    let operations = c.args.context.now.operations.now in
    let production = c.args.context.now.production.now in
    each_taken (λ (z : Equation). (is : Kind) → IsAttributeKind a (attribute_of z.target) is
    → Passes c.args.context.now.rule a operations production z.nodes is)
    c.as_slice-equation-items.result.now production.equations c.equations.equation-index c.as_slice-equation-items.ensures
    c.equations.invariant c.equations-test.false e listed is
