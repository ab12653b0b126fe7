use Rattle.std.proofs.Common.{arith}
use Rattle.wb_determinism_lookaheads.proofs.LiftLemmas.{lifted_all, lifted_none}
use Rattle.wb_determinism_lookaheads.proofs.lifted.lifted.Goals as goal

pub terminals-init : goal.terminals-init
terminals-init c =
    lifted_none c.args.context.now c.args.set.now c.in_ok-lifted.lifted c.in_ok-count.count c.in_ok-count.ensures.count
    c.in_ok-lifted.ensures

pub returns : goal.returns
returns c =
    lifted_all c.args.context.now c.args.set.now c.terminals.lifted c.terminals.terminal c.terminals.invariant
    (omega (arith, c.terminals-test.false, c.in_ok-count.ensures.count))
