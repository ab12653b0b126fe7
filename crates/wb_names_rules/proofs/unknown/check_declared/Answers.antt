use Rattle.wb_lemmas.proofs.Refusals.{handed_on}
use Rattle.wb_names_rules.specs.Inner.Tests.{IsKnown, ShowsUnknown, IsUnknownIn}
use Rattle.wb_names_rules.proofs.LoopLemmas.{taken_more, taken_all}
use Rattle.wb_names_rules.proofs.UnknownLemmas.{shown_unknown}
use Rattle.wb_names_rules.proofs.unknown.check_declared.Goals as goal

pub returns-in_err-check_usage-clause-refused : goal.returns-in_err-check_usage-clause-refused
returns-in_err-check_usage-clause-refused c =
    handed_on (ShowsUnknown c.args.index.now c.usage-item.result) (IsUnknownIn c.args.index.now c.args.used.now) c.from_residual.result
    c.in_err-check_usage.field-0.0 c.from_residual.ensures.1 (shown_unknown c.args.index.now c.args.used.now c.usages.usage-index
    c.usage-item.result c.usages-test.true c.usage-item.is) c.in_err-check_usage.ensures.refused

pub usages-preserved : goal.usages-preserved
usages-preserved c =
    taken_more (IsKnown c.args.index.now) c.args.used.now c.usages.usage-index c.usage-item.result c.usages.invariant c.usages-test.true
    c.usage-item.is c.in_ok-check_usage.ensures.ok

pub returns-clause-ok : goal.returns-clause-ok
returns-clause-ok c = taken_all (IsKnown c.args.index.now) c.args.used.now c.usages.usage-index c.usages.invariant c.usages-test.false
