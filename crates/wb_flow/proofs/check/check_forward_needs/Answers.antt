use Rattle.std.proofs.Common.{◌≤◌, length, arith}
use Rattle.wb_flow.specs.Inner.Sources.{HoldsForward}
use Rattle.wb_flow.proofs.AddingLemmas.{read_item}
use Rattle.wb_flow.proofs.EachLemmas.{each_more, each_in, hold_all}
use Rattle.wb_flow.proofs.check.check_forward_needs.Goals as goal

pub occurrences-preserved : goal.occurrences-preserved
occurrences-preserved c =
    each_more c.as_slice-occurrence-items.result.now (HoldsForward c.args.scope.now.attributes.now) c.occurrences.occurrence-index
    c.occurrence-item.result
    (read_item c.as_slice-occurrence-items.result.now c.occurrences.occurrence-index c.occurrence-item.result c.occurrences-test.true
    c.occurrence-item.is) c.occurrences.invariant c.in_ok-check_occurrence.ensures.ok

pub returns-clause-ok : goal.returns-clause-ok
returns-clause-ok c =
    let items = c.as_slice-occurrence-items.result.now in
    let ended : length items ≤ c.occurrences.occurrence-index = omega arith in
    hold_all c.args.scope.now.attributes.now c.requires
    (each_in items (HoldsForward c.args.scope.now.attributes.now) c.args.scope.now.attributes.now.occurrences
    c.as_slice-occurrence-items.ensures c.occurrences.occurrence-index ended c.occurrences.invariant)
