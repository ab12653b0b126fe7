use Rattle.std.proofs.Common.{refl, subst, sym}
use Rattle.std.specs.Prelude.{IfOk, IfErr}
use Rattle.wb_types.specs.declared.context.Rule.{Rule}
use Rattle.wb_types.specs.declared.refusal.TypeRefusal.TheVariants.{WrongArity, TypeMismatch}
use Rattle.wb_types.specs.Inner.Passes.{Passes, Fails}
use Rattle.wb_types.proofs.AtLemmas.{never_both}
use Rattle.wb_types.proofs.check.check_expression.Goals as goal

pub returns-in-Known-clause-ok : goal.returns-in-Known-clause-ok
returns-in-Known-clause-ok c =
    subst (λ (rule : Rule). IfOk c.check_known.result (λ done. Passes rule c.args.context.now.attributes.now
    c.args.context.now.operations.now c.args.context.now.production.now c.args.nodes.now c.args.kind)) (sym c.in-Known.is)
    c.check_known.ensures.ok

pub returns-in-Known-clause-refused : goal.returns-in-Known-clause-refused
returns-in-Known-clause-refused c =
    subst (λ (rule : Rule). IfErr c.check_known.result (Fails rule c.args.context.now.attributes.now c.args.context.now.operations.now
    c.args.context.now.production.now c.args.nodes.now c.args.kind c.args.offset)) (sym c.in-Known.is) c.check_known.ensures.refused

pub returns-then-not-have_arities-clause-refused : goal.returns-then-not-have_arities-clause-refused
returns-then-not-have_arities-clause-refused c =
    subst (λ (rule : Rule). Fails rule c.args.context.now.attributes.now c.args.context.now.operations.now
    c.args.context.now.production.now c.args.nodes.now c.args.kind c.args.offset (WrongArity c.args.offset)) (sym c.in-Arity.is)
    (refl, λ all. never_both c.have_arities.result c.if-not-have_arities.true (c.have_arities.ensures.1 all))

pub returns-else-not-have_arities-clause-ok : goal.returns-else-not-have_arities-clause-ok
returns-else-not-have_arities-clause-ok c =
    subst (λ (rule : Rule). Passes rule c.args.context.now.attributes.now c.args.context.now.operations.now
    c.args.context.now.production.now c.args.nodes.now c.args.kind) (sym c.in-Arity.is)
    (c.have_arities.ensures.0 c.if-not-have_arities.false)

pub returns-then-not-branch-clause-refused : goal.returns-then-not-branch-clause-refused
returns-then-not-branch-clause-refused c =
    subst (λ (rule : Rule). Fails rule c.args.context.now.attributes.now c.args.context.now.operations.now
    c.args.context.now.production.now c.args.nodes.now c.args.kind c.args.offset (TypeMismatch c.args.offset)) (sym c.in-Kind.is)
    (refl, λ whole. never_both c.in_ok-has_kind-in-Kind.field-0 c.if-not-branch.true (c.in_ok-has_kind-in-Kind.ensures.1 whole))

pub returns-else-not-branch-clause-ok : goal.returns-else-not-branch-clause-ok
returns-else-not-branch-clause-ok c =
    subst (λ (rule : Rule). Passes rule c.args.context.now.attributes.now c.args.context.now.operations.now
    c.args.context.now.production.now c.args.nodes.now c.args.kind) (sym c.in-Kind.is)
    (c.in_ok-has_kind-in-Kind.ensures.0 c.if-not-branch.false)
