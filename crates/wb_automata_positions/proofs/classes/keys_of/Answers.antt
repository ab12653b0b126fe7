use Rattle.std.proofs.Common.{rules}
use Rattle.wb_automata_positions.proofs.ClassLemmas.{keys_more}
use Rattle.wb_automata_positions.proofs.classes.keys_of.Goals as goal

pub loop-b-preserved : goal.loop-b-preserved
loop-b-preserved c = rw (c.in_ok-push.ensures.ok)
    (keys_more c.args.node c.args.classes.now c.loop-b.keys.items c.loop-b.b c.key_of-key.result c.loop-b.invariant (search rules))
