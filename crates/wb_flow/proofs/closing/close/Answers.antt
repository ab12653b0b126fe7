use Rattle.std.proofs.Common.{◌≤◌, ◌<◌, length, get_or, sym, subst, arith}
use Rattle.std.proofs.lemmas.Option.{slice_get-get_or}
use Rattle.wb_lemmas.proofs.Members.{contains_at}
use Rattle.wb_flow.proofs.ClosingLemmas.{closing_start, closing_more_at, closing_end, even_then}
use Rattle.wb_flow.proofs.closing.close.Goals as goal

pub steps-init : goal.steps-init
steps-init c = closing_start c.args.steps.now c.args.sets.now.items

pub join-requires-clause-to : goal.join-requires-clause-to
join-requires-clause-to c =
    let at = slice_get-get_or c.args.steps.now c.steps.step-index (0, 0) c.steps-test.true in
    let (low, within) = c.requires.falls (get_or c.args.steps.now c.steps.step-index (0, 0))
    (contains_at c.args.steps.now (get_or c.args.steps.now c.steps.step-index (0, 0)) c.steps.step-index at) in
    subst (λ n. (get_or c.args.steps.now c.steps.step-index (0, 0)).0 < n) (sym c.steps.invariant.len) within

pub join-requires-clause-from : goal.join-requires-clause-from
join-requires-clause-from c =
    let at = slice_get-get_or c.args.steps.now c.steps.step-index _ c.steps-test.true in
    (c.requires.falls _ (contains_at c.args.steps.now _ c.steps.step-index at)).0

pub join-requires-clause-len : goal.join-requires-clause-len
join-requires-clause-len c =
    let at = slice_get-get_or c.args.steps.now c.steps.step-index _ c.steps-test.true in
    let falls = c.requires.falls _ (contains_at c.args.steps.now _ c.steps.step-index at) in
    even_then c.args.steps.now c.args.sets.now.items c.steps.sets.items c.steps.step-index c.requires.even c.steps.invariant _
    falls.0 falls.1

pub steps-preserved : goal.steps-preserved
steps-preserved c =
    closing_more_at c.args.steps.now (length c.args.sets.now.items) c.requires.falls c.requires.rising c.args.sets.now.items
    c.steps.sets.items c.join.new.sets.items c.steps.step-index _
    (slice_get-get_or c.args.steps.now c.steps.step-index _ c.steps-test.true) c.steps.invariant c.join.ensures

pub returns : goal.returns
returns c =
    let ended : length c.args.steps.now ≤ c.steps.step-index = omega arith in
    closing_end c.args.steps.now c.args.sets.now.items c.steps.sets.items c.steps.step-index ended c.steps.invariant
