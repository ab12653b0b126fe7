use Rattle.std.proofs.Common.{arith}
use Rattle.wb_marking_holes.proofs.HoleLemmas.{copied_more}
use Rattle.wb_marking_holes.proofs.holes.add_productions.Goals as goal

pub productions-preserved : goal.productions-preserved
productions-preserved c =
    copied_more c.args.made.now c.productions.made c.add.new.self c.args.grammar.now c.productions.production c.left.result c.right.result.now
    (omega (arith, c.productions-test.true, c.productions-production-end.ensures.count)) c.left.ensures.left c.right.ensures.right
    c.productions.invariant c.in_ok-add.ensures.ok
