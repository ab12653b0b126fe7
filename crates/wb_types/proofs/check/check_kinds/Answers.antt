use Rattle.std.proofs.Common.{Contains}
use Rattle.std.proofs.lemmas.Result.{IfOk-weaker, IfErr-weaker}
use Rattle.wb_lemmas.proofs.Refusals.{handed_on}
use Rattle.wb_syntax_resolved.specs.declared.production.Production.{Production}
use Rattle.wb_types.specs.declared.context.Rule.TheVariants.{Known, Arity, Kind}
use Rattle.wb_types.specs.Refusals.{IsTrueRefusal}
use Rattle.wb_types.specs.Rules.{KindsOk}
use Rattle.wb_types.specs.Inner.Passes.{AllPass, AnyFails}
use Rattle.wb_types.proofs.PassLemmas.{known_refused, arity_refused, kind_refused}
use Rattle.wb_types.proofs.check.check_kinds.Goals as goal

pub returns-in_err-check_rule-clause-refused : goal.returns-in_err-check_rule-clause-refused
returns-in_err-check_rule-clause-refused c =
    handed_on (AnyFails Known c.args.attributes.now c.args.operations.now) (IsTrueRefusal c.args.attributes.now c.args.operations.now)
    c.from_residual.result c.in_err-check_rule.field-0.0 c.from_residual.ensures.1
    (known_refused c.args.attributes.now c.args.operations.now) c.in_err-check_rule.ensures.refused

pub returns-in_err-check_rule-2-clause-refused : goal.returns-in_err-check_rule-2-clause-refused
returns-in_err-check_rule-2-clause-refused c =
    handed_on (AnyFails Arity c.args.attributes.now c.args.operations.now) (IsTrueRefusal c.args.attributes.now c.args.operations.now)
    c.from_residual-in_err-check_rule-2.result c.in_err-check_rule-2.field-0.0 c.from_residual-in_err-check_rule-2.ensures.1
    (arity_refused c.args.attributes.now c.args.operations.now
    (λ production nodes is offset listed asked. c.in_ok-check_rule.ensures.ok production listed nodes is offset asked))
    c.in_err-check_rule-2.ensures.refused

pub returns-clause-ok : goal.returns-clause-ok
returns-clause-ok c =
    let a = c.args.attributes.now in
    let operations = c.args.operations.now in
    IfOk-weaker c.check_rule-3.result (λ done. (production : Production) → Contains a.productions production
    → AllPass Kind a operations production)
    (λ done. KindsOk a operations)
    (λ done all. record {
      known = λ production nodes is offset listed asked. c.in_ok-check_rule.ensures.ok production listed nodes is offset asked;
      arities = λ production nodes is offset listed asked. c.in_ok-check_rule-2.ensures.ok production listed nodes is offset asked;
      kinds = λ production nodes is offset listed asked. all production listed nodes is offset asked;
    })
    c.check_rule-3.ensures.ok

pub returns-clause-refused : goal.returns-clause-refused
returns-clause-refused c =
    let a = c.args.attributes.now in
    let operations = c.args.operations.now in
    IfErr-weaker c.check_rule-3.result (AnyFails Kind a operations) (IsTrueRefusal a operations)
    (kind_refused a operations
    (λ production nodes is offset listed asked. c.in_ok-check_rule.ensures.ok production listed nodes is offset asked)
    (λ production nodes is offset listed asked. c.in_ok-check_rule-2.ensures.ok production listed nodes is offset asked))
    c.check_rule-3.ensures.refused
