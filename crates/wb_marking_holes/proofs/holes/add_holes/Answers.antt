use Rattle.std.proofs.Common.{arith}
use Rattle.wb_marking_holes.proofs.HoleLemmas.{added_more}
use Rattle.wb_marking_holes.proofs.holes.add_holes.Goals as goal

pub holes-preserved : goal.holes-preserved
holes-preserved c =
    added_more c.args.made.now c.holes.made c.add.new.self c.args.extensible.now c.args.first c.holes.hole _ (omega arith)
    (omega (arith, c.holes-test.true, c.requires.holes)) c.holes.invariant c.in_ok-add.ensures.ok
