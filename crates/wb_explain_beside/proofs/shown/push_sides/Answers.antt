use Rattle.wb_explain_beside.proofs.SideLemmas.{none, one_more}
use Rattle.wb_explain_beside.proofs.shown.push_sides.Goals as goal

pub sides-init : goal.sides-init
sides-init c = none c.args.told.now.host.now c.args.told.now.grammar.now c.args.told.now.resolved.now c.args.out.now.items

pub sides-preserved : goal.sides-preserved
sides-preserved c =
    one_more c.args.told.now.host.now c.args.told.now.grammar.now c.args.told.now.resolved.now c.args.out.now.items c.sides.out.items
    c.push_checked.new.out.items c.sides.invariant c.in_ok-push_checked.ensures
