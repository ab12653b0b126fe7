use Rattle.wb_automata.proofs.CommonLemmas.{flags_more}
use Rattle.wb_automata.proofs.common_texts.flags_of.Goals as goal

pub loop-pair-preserved : goal.loop-pair-preserved
loop-pair-preserved c = rw (c.in_ok-push.ensures.ok) (flags_more c.args.machine.now c.args.met.now c.args.pairs.now c.loop-pair.flags.items
    c.loop-pair.pair-index c.is_met.result c.loop-pair-test.true c.is_met.ensures c.loop-pair.invariant)
