use Rattle.std.proofs.Common.{◌<◌, ◌≤◌, sym, subst, refl, ◌∙◌, length}
use Rattle.std.proofs.lemmas.Bool.{eq-eqb, le-leb}
use Rattle.wb_lemmas.proofs.Numbers.{eqb_true}
use Rattle.wb_syntax_expressions.specs.declared.node.Node.TheVariants as n
use Rattle.wb_types.specs.Rules.{HasArity}
use Rattle.wb_types.proofs.OperationLemmas.{unknown_none, arity_found, built_past, built_exact}
use Rattle.wb_types.proofs.PassLemmas.{other_arity}
use Rattle.wb_types.proofs.check.has_arity.Goals as goal

pub returns-in-None : goal.returns-in-None
returns-in-None c = (
  λ e. subst (HasArity c.args.context.now.attributes.now c.args.context.now.operations.now) (sym c.in-Call.is)
      (λ number s at named. absurd (unknown_none c.args.context.now.operations.now c.as_slice.result.now number s c.in-None.ensures.none at
      (named ∙ sym c.as_slice.ensures))),
  λ has. refl,
)

pub returns-in-Some : goal.returns-in-Some
returns-in-Some c =
    let exact = arity_found c.args.context.now.attributes.now c.args.context.now.operations.now c.as_slice.result.now c.in-Call.arguments
    c.in-Some.number
    c.takes.result.now c.in-Some.ensures.different c.in-Some.ensures.found c.takes.ensures in (
      λ e. subst (HasArity c.args.context.now.attributes.now c.args.context.now.operations.now) (sym c.in-Call.is)
          (subst (λ name. HasArity c.args.context.now.attributes.now c.args.context.now.operations.now
          (n.Call name c.in-Call.arguments)) c.as_slice.ensures
          (exact.0 (sym (eqb_true (length c.takes.result.now) c.len-in-Some.result e ∙ c.len-in-Some.ensures)))),
      λ has. eq-eqb (length c.takes.result.now) c.len-in-Some.result
          (sym (c.len-in-Some.ensures ∙ exact.1
          (subst (λ name. HasArity c.args.context.now.attributes.now c.args.context.now.operations.now (n.Call name c.in-Call.arguments))
          (sym c.as_slice.ensures)
          (subst (HasArity c.args.context.now.attributes.now c.args.context.now.operations.now) c.in-Call.is has)))),
    )

pub returns-in_default : goal.returns-in_default
returns-in_default c = (
  λ e. other_arity c.args.context.now.attributes.now c.args.context.now.operations.now c.args.node.now c.in_default.not-Build
      c.in_default.not-Call,
  λ has. refl,
)

pub returns-then-production-len : goal.returns-then-production-len
returns-then-production-len c = (
  λ e. built_past c.args.context.now.attributes.now c.args.context.now.operations.now c.args.node.now c.in-Build.production
      c.in-Build.children c.in-Build.is (subst (λ z. z ≤ c.in-Build.production) c.len.ensures c.if-production-len.true),
  λ has. le-leb c.len.result c.in-Build.production c.if-production-len.true,
)

pub returns-else-production-len : goal.returns-else-production-len
returns-else-production-len c =
    built_exact c.args.context.now.attributes.now c.args.context.now.operations.now c.args.node.now c.in-Build.production
    c.in-Build.children c.children.result.now c.len-else-production-len.result c.in-Build.is
    (subst (λ z. c.in-Build.production < z) c.len.ensures c.if-production-len.false) c.children.ensures c.len-else-production-len.ensures
