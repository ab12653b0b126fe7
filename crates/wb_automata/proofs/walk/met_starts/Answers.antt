use Rattle.std.proofs.Common.{◌≡◌, [], arith}
use Rattle.wb_automata.proofs.PairLemmas.{adds_more}
use Rattle.wb_automata.proofs.walk.met_starts.Goals as goal

pub loop-pair-preserved : goal.loop-pair-preserved
loop-pair-preserved c = adds_more c.args.pairs.now c.loop-pair.pair-index (λ c d. d ≡ c) c.args.met.now
    c.loop-pair.met c.meet.new.met [] c.loop-pair.next c.meet.new.next (omega arith) c.in_ok-meet.ensures c.loop-pair.invariant
