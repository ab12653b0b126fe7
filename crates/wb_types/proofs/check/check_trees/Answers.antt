use Rattle.wb_syntax_resolved.specs.declared.production.Forward.{Forward}
use Rattle.wb_syntax_resolved.specs.Named.{IsNamedExpression}
use Rattle.wb_types.proofs.OperationLemmas.{fact_at}
use Rattle.std.proofs.Common.{refl, subst, sym}
use Rattle.std.proofs.lemmas.Result.{IfOk-weaker, IfErr-weaker}
use Rattle.wb_base.specs.declared.symbol.Kind.TheVariants.{Tree}
use Rattle.wb_lemmas.proofs.Elements.{all_contained}
use Rattle.wb_lemmas.proofs.Refusals.{handed_on}
use Rattle.wb_syntax_expressions.specs.Expression.{IsWhole}
use Rattle.wb_syntax_resolved.specs.declared.production.Local.{Local}
use Rattle.wb_syntax_resolved.specs.Named.{IsNamedLocal}
use Rattle.wb_types.specs.Expected as s
use Rattle.wb_types.specs.Inner.Passes.{Passes, Fails, SomeFails}
use Rattle.wb_types.proofs.PassLemmas.{forward_passes, some_fails, taken_more, each_taken, read_contained}
use Rattle.wb_types.proofs.check.check_trees.Goals as goal

pub check_expression-requires : goal.check_expression-requires
check_expression-requires c =
    let a = c.args.context.now.attributes.now in
    let production = c.args.context.now.production.now in
    let l = c.local-item.result in
    let named = all_contained (IsNamedLocal a production) production.locals l c.requires.locals
    (read_contained c.as_slice-local-items.result.now production.locals c.locals.local-index l c.as_slice-local-items.ensures
    c.locals-test.true c.local-item.is) in
    subst IsWhole (sym c.as_slice.ensures) named.value.whole

pub returns-in_err-check_expression-clause-refused : goal.returns-in_err-check_expression-clause-refused
returns-in_err-check_expression-clause-refused c =
    let a = c.args.context.now.attributes.now in
    let operations = c.args.context.now.operations.now in
    let production = c.args.context.now.production.now in
    let l = c.local-item.result in
    let nodes = c.as_slice.result.now in
    handed_on (Fails c.args.context.now.rule a operations production nodes (Tree l.nonterminal) l.offset)
    (SomeFails c.args.context.now.rule a operations production)
    c.from_residual.result c.in_err-check_expression.field-0.0 c.from_residual.ensures.1
    (some_fails c.args.context.now.rule a operations production nodes (Tree l.nonterminal) l.offset
    (s.local l
    (read_contained c.as_slice-local-items.result.now production.locals c.locals.local-index l c.as_slice-local-items.ensures
    c.locals-test.true c.local-item.is)
    c.as_slice.ensures refl refl))
    c.in_err-check_expression.ensures.refused

pub locals-preserved : goal.locals-preserved
locals-preserved c =
    let a = c.args.context.now.attributes.now in
    let operations = c.args.context.now.operations.now in
    let production = c.args.context.now.production.now in
    let l = c.local-item.result in
    taken_more (λ (z : Local). Passes c.args.context.now.rule a operations production z.nodes (Tree z.nonterminal))
    c.as_slice-local-items.result.now
    c.locals.local-index l c.locals.invariant c.locals-test.true c.local-item.is
    (subst (λ z. Passes c.args.context.now.rule a operations production z (Tree l.nonterminal)) c.as_slice.ensures
    c.in_ok-check_expression.ensures.ok)

pub returns-in_default-clause-locals : goal.returns-in_default-clause-locals
returns-in_default-clause-locals c =
    let a = c.args.context.now.attributes.now in
    let operations = c.args.context.now.operations.now in
    let production = c.args.context.now.production.now in
    each_taken (λ (z : Local). Passes c.args.context.now.rule a operations production z.nodes (Tree z.nonterminal))
    c.as_slice-local-items.result.now production.locals c.locals.local-index c.as_slice-local-items.ensures c.locals.invariant
    c.locals-test.false

pub returns-clause-locals : goal.returns-clause-locals
returns-clause-locals c =
    let a = c.args.context.now.attributes.now in
    let operations = c.args.context.now.operations.now in
    let production = c.args.context.now.production.now in
    IfOk-weaker c.check_expression-2.result _ _
    (λ done last. each_taken (λ (z : Local). Passes c.args.context.now.rule a operations production z.nodes (Tree z.nonterminal))
    c.as_slice-local-items.result.now production.locals c.locals.local-index c.as_slice-local-items.ensures c.locals.invariant
    c.locals-test.false)
    c.check_expression-2.ensures.ok

pub returns-clause-refused : goal.returns-clause-refused
returns-clause-refused c =
    let a = c.args.context.now.attributes.now in
    let operations = c.args.context.now.operations.now in
    let production = c.args.context.now.production.now in
    let nodes = c.as_slice-2.result.now in
    let offset = c.in-Some.forward.offset in
    IfErr-weaker c.check_expression-2.result (Fails c.args.context.now.rule a operations production nodes (Tree production.left) offset)
    (SomeFails c.args.context.now.rule a operations production)
    (some_fails c.args.context.now.rule a operations production nodes (Tree production.left) offset
    (s.forward c.in-Some.forward c.in-Some.is c.as_slice-2.ensures refl refl))
    c.check_expression-2.ensures.refused

pub returns-in_default-clause-forward : goal.returns-in_default-clause-forward
returns-in_default-clause-forward c = λ f there. absurd (c.in_default.not-Some f there)

pub returns-clause-forward : goal.returns-clause-forward
returns-clause-forward c =
    IfOk-weaker c.check_expression-2.result _ _
    (λ done passes. forward_passes c.args.context.now.rule c.args.context.now.attributes.now c.args.context.now.operations.now
    c.args.context.now.production.now c.in-Some.forward c.as_slice-2.result.now c.in-Some.is c.as_slice-2.ensures passes)
    c.check_expression-2.ensures.ok

pub check_expression-requires-2 : goal.check_expression-requires-2
check_expression-requires-2 c =
    let a = c.args.context.now.attributes.now in
    let production = c.args.context.now.production.now in
    let named = fact_at production.forward (λ (f : Forward). IsNamedExpression a production production.owner f.nodes)
    c.in-Some.forward c.requires.forward c.in-Some.is in
    subst IsWhole (sym c.as_slice-2.ensures) named.whole
