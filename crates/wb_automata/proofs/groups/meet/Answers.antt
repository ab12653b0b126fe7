use Rattle.std.proofs.Common.{subst}
use Rattle.wb_automata.specs.Inner.Pairs.{IsInserted}
use Rattle.wb_automata.proofs.PairLemmas.{adds_new, adds_old}
use Rattle.wb_automata.proofs.groups.meet.Goals as goal

pub returns-in_ok-push : goal.returns-in_ok-push
returns-in_ok-push c =
    let new = subst (IsInserted c.args.met.now c.args.pair c.insert.new.self) c.if-branch.true c.in_ok-insert.ensures in
    adds_new c.args.met.now c.insert.new.self c.args.next.now c.push.new.self c.args.pair new.1 c.in_ok-push.ensures

pub returns-else-branch : goal.returns-else-branch
returns-else-branch c =
    let old = subst (IsInserted c.args.met.now c.args.pair c.insert.new.self) c.if-branch.false c.in_ok-insert.ensures in
    adds_old c.args.met.now c.insert.new.self c.args.next.now c.args.pair old.1 old.0
