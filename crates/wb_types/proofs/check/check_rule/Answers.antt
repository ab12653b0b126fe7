use Rattle.wb_lemmas.proofs.Elements.{all_contained}
use Rattle.wb_syntax_resolved.specs.Named.{IsNamedProduction}
use Rattle.wb_lemmas.proofs.Refusals.{handed_on}
use Rattle.wb_types.specs.Inner.Passes.{AllPass, SomeFails, AnyFails}
use Rattle.wb_types.proofs.PassLemmas.{all_pass, any_fails, taken_more, each_taken, read_contained}
use Rattle.wb_types.proofs.check.check_rule.Goals as goal

pub check_trees-requires : goal.check_trees-requires
check_trees-requires c =
    all_contained (IsNamedProduction c.args.attributes.now) c.args.attributes.now.productions c.production-item.result
    c.requires.named.productions
    (read_contained c.as_slice-production-items.result.now c.args.attributes.now.productions c.productions.production-index
    c.production-item.result c.as_slice-production-items.ensures c.productions-test.true c.production-item.is)

pub check_equations-requires : goal.check_equations-requires
check_equations-requires c =
    all_contained (IsNamedProduction c.args.attributes.now) c.args.attributes.now.productions c.production-item.result
    c.requires.named.productions
    (read_contained c.as_slice-production-items.result.now c.args.attributes.now.productions c.productions.production-index
    c.production-item.result c.as_slice-production-items.ensures c.productions-test.true c.production-item.is)

pub productions-preserved : goal.productions-preserved
productions-preserved c =
    taken_more
    (AllPass c.args.rule c.args.attributes.now c.args.operations.now) c.as_slice-production-items.result.now
    c.productions.production-index
    c.production-item.result c.productions.invariant c.productions-test.true c.production-item.is
    (all_pass c.args.rule c.args.attributes.now c.args.operations.now c.production-item.result c.in_ok-check_trees.ensures.locals
    c.in_ok-check_trees.ensures.forward c.in_ok-check_equations.ensures.ok)

pub returns-clause-ok : goal.returns-clause-ok
returns-clause-ok c =
    each_taken (AllPass c.args.rule c.args.attributes.now c.args.operations.now) c.as_slice-production-items.result.now
    c.args.attributes.now.productions c.productions.production-index c.as_slice-production-items.ensures c.productions.invariant
    c.productions-test.false

pub returns-in_err-check_trees-clause-refused : goal.returns-in_err-check_trees-clause-refused
returns-in_err-check_trees-clause-refused c =
    handed_on (SomeFails c.args.rule c.args.attributes.now c.args.operations.now c.production-item.result)
    (AnyFails c.args.rule c.args.attributes.now c.args.operations.now) c.from_residual.result c.in_err-check_trees.field-0.0
    c.from_residual.ensures.1
    (any_fails c.args.rule c.args.attributes.now c.args.operations.now c.production-item.result
    (read_contained c.as_slice-production-items.result.now c.args.attributes.now.productions c.productions.production-index
    c.production-item.result c.as_slice-production-items.ensures c.productions-test.true c.production-item.is))
    c.in_err-check_trees.ensures.refused

pub returns-in_err-check_equations-clause-refused : goal.returns-in_err-check_equations-clause-refused
returns-in_err-check_equations-clause-refused c =
    handed_on (SomeFails c.args.rule c.args.attributes.now c.args.operations.now c.production-item.result)
    (AnyFails c.args.rule c.args.attributes.now c.args.operations.now) c.from_residual-in_err-check_equations.result
    c.in_err-check_equations.field-0.0
    c.from_residual-in_err-check_equations.ensures.1
    (any_fails c.args.rule c.args.attributes.now c.args.operations.now c.production-item.result
    (read_contained c.as_slice-production-items.result.now c.args.attributes.now.productions c.productions.production-index
    c.production-item.result c.as_slice-production-items.ensures c.productions-test.true c.production-item.is))
    c.in_err-check_equations.ensures.refused
