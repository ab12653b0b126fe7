use Rattle.wb_lemmas.proofs.Refusals.{handed_on}
use Rattle.wb_names_rules.specs.Inner.Tests.{IsOfKind, ShowsKind, IsWrongIn}
use Rattle.wb_names_rules.proofs.KindLemmas.{shown_kind}
use Rattle.wb_names_rules.proofs.LoopLemmas.{taken_more, taken_all}
use Rattle.wb_names_rules.proofs.kinds.check_usages.Goals as goal

pub returns-in_err-check_usage-clause-refused : goal.returns-in_err-check_usage-clause-refused
returns-in_err-check_usage-clause-refused c = λ unplaced.
    handed_on (ShowsKind c.args.index.now c.usage-item.result) (IsWrongIn c.args.index.now c.args.used.now unplaced) c.from_residual.result
    c.in_err-check_usage.field-0.0 c.from_residual.ensures.1 (shown_kind c.args.index.now c.args.used.now unplaced c.usages.usage-index
    c.usage-item.result c.usages-test.true c.usage-item.is) c.in_err-check_usage.ensures.refused

pub usages-preserved : goal.usages-preserved
usages-preserved c =
    taken_more (IsOfKind c.args.index.now) c.args.used.now c.usages.usage-index c.usage-item.result c.usages.invariant c.usages-test.true
    c.usage-item.is c.in_ok-check_usage.ensures.ok

pub returns-clause-ok : goal.returns-clause-ok
returns-clause-ok c = taken_all (IsOfKind c.args.index.now) c.args.used.now c.usages.usage-index c.usages.invariant c.usages-test.false
