use Rattle.wb_determinism_lookaheads.proofs.PassedLemmas.{moved_passed}
use Rattle.wb_determinism_lookaheads.proofs.test.is_moved_on.Goals as goal

pub returns : goal.returns
returns c = λ holds.
    moved_passed c.args.context.now c.args.sets.now c.args.place c.requires.context c.args.item c.args.symbol
    (c.requires.symbol.0) c.args.set.now c.in-Some.next (c.requires.symbol.1) c.in-Some.ensures (c.is_there.ensures holds)
