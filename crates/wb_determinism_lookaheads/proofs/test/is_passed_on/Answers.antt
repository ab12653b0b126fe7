use Rattle.wb_determinism_lookaheads.proofs.PassedLemmas.{passed_none}
use Rattle.wb_determinism_lookaheads.proofs.test.is_passed_on.Goals as goal

pub returns-in_default : goal.returns-in_default
returns-in_default c = λ _.
    passed_none c.args.context.now c.args.sets.now c.args.place c.args.item c.args.set.now c.in_default.ensures.symbol

pub returns : goal.returns
returns c = λ holds. record { opens = c.is_opened.ensures c.if-not-is_opened.false; moves = c.is_moved_on.ensures holds }
