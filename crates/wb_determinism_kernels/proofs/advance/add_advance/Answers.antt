use Rattle.wb_determinism_kernels.proofs.AdvanceLemmas.{advances_pass, advances_take}
use Rattle.wb_determinism_kernels.proofs.advance.add_advance.Goals as goal

pub returns-in_ok-push : goal.returns-in_ok-push
returns-in_ok-push c =
    let (rest, is) = c.in-Some.ensures.symbol in
    rw c.in_ok-push.ensures.ok
    (advances_take c.args.grammar.now c.args.closure.now c.args.list.now.items c.args.place c.item_at-item.result c.in-Some.symbol rest
    c.advanced.result c.item_at-item.ensures is c.advanced.ensures.symbol c.advanced.ensures.item c.requires.before)

pub returns-in_default : goal.returns-in_default
returns-in_default c =
    advances_pass c.args.grammar.now c.args.closure.now c.args.list.now.items c.args.place c.item_at-item.result c.item_at-item.ensures
    c.in_default.ensures.symbol c.requires.before
