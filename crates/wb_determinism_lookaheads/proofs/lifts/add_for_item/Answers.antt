use Rattle.wb_determinism_lookaheads.proofs.LiftLemmas.{lifts_more}
use Rattle.wb_determinism_lookaheads.proofs.lifts.add_for_item.Goals as goal

pub returns : goal.returns
returns c =
    lifts_more c.args.context.now c.args.lifts.now.list.items c.push.new.list.items c.in-Some.number c.set.result.now c.in_ok-set.set
    c.requires.before c.set.ensures c.in_ok-set.ensures c.in_ok-push.ensures.ok
