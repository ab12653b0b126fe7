use Rattle.wb_flow.proofs.ReachLemmas.{adds_nothing, adds_selected}
use Rattle.wb_flow.proofs.reach.TopReach.select.Goals as goal

pub returns-in_default : goal.returns-in_default
returns-in_default c = adds_nothing c.args.self.now c.args.attribute c.args.set.now c.in_default.ensures.none

pub returns : goal.returns
returns c =
    adds_selected c.args.self.now c.args.attribute c.in-Some.number c.args.set.now c.find.ensures.different c.requires
    c.in-Some.ensures.some c.insert.new.self c.insert.ensures.after
