use Rattle.std.proofs.Common.{arith}
use Rattle.wb_automata.specs.Inner.Pairs.{IsAfter}
use Rattle.wb_automata.proofs.PairLemmas.{adds_more}
use Rattle.wb_automata.proofs.walk.meet_after.Goals as goal

pub loop-pair-preserved : goal.loop-pair-preserved
loop-pair-preserved c = adds_more c.args.pairs.now c.loop-pair.pair-index (IsAfter c.args.places.now c.args.byte) c.args.met.now
    c.loop-pair.met c.meet_next.new.met c.args.next.now c.loop-pair.next c.meet_next.new.next (omega arith) c.in_ok-meet_next.ensures
    c.loop-pair.invariant
