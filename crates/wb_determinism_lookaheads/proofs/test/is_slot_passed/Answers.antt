use Rattle.wb_determinism_lookaheads.proofs.PassedLemmas.{slot_passed}
use Rattle.wb_determinism_lookaheads.proofs.test.is_slot_passed.Goals as goal

pub returns : goal.returns
returns c = λ holds.
    slot_passed c.args.context.now c.args.sets.now c.args.place c.args.at c.in-Some.one c.in-Some-set_in.set.now
    c.in-Some.ensures c.in-Some-set_in.ensures (c.is_together_passed.ensures holds)
