use Rattle.std.proofs.Common.{arith, refl}
use Rattle.wb_lexical.proofs.ClashLemmas.{left_more, left_end}
use Rattle.wb_lexical.proofs.pair.undecided_pair.Goals as goal

pub loop-left-preserved : goal.loop-left-preserved
loop-left-preserved c = left_more c.args.accepted.now c.args.preferences.now c.loop-left.left-index
    (c.in_default.ensures.none refl) c.loop-left.invariant

pub returns-clause-none : goal.returns-clause-none
returns-clause-none c e left right u =
    left_end c.args.accepted.now c.args.preferences.now c.loop-left.left-index (omega arith) c.loop-left.invariant left right u
