use Rattle.std.proofs.Common.{◌≤◌, ◌∙◌, false, length, replicate, ap, arith}
use Rattle.std.proofs.lemmas.Option.{slice_get-get_or}
use Rattle.wb_flow.proofs.ReachLemmas.{selection_start, selection_more, selection_end}
use Rattle.wb_flow.proofs.reach.TopReach.selection.Goals as goal

pub listed-init : goal.listed-init
listed-init c =
    selection_start c.args.self.now c.args.listed.now c.in_ok-set.set
    (c.in_ok-set.ensures ∙ ap (λ n. replicate n false) c.len.ensures)

pub select-requires : goal.select-requires
select-requires c = c.listed.invariant.len

pub listed-preserved : goal.listed-preserved
listed-preserved c =
    selection_more c.args.self.now c.args.listed.now c.listed.set c.select.new.set c.listed.attribute-index _
    (slice_get-get_or c.args.listed.now c.listed.attribute-index _ c.listed-test.true) c.listed.invariant c.select.ensures

pub returns : goal.returns
returns c =
    let ended : length c.args.listed.now ≤ c.listed.attribute-index = omega arith in
    selection_end c.args.self.now c.args.listed.now c.listed.set c.listed.attribute-index ended c.listed.invariant
