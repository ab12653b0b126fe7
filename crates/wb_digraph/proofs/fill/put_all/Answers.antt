use Rattle.std.proofs.Common.{◌≤◌, arith}
use Rattle.wb_items.specs.Kernels.{count_of}
use Rattle.wb_digraph.proofs.FillLemmas.{filled_all, filled_none}
use Rattle.wb_digraph.proofs.fill.put_all.Goals as goal

pub states-init : goal.states-init
states-init c = record { flows = c.requires.flows; filled = filled_none c.args.lookaheads.now c.requires.shape }

pub returns : goal.returns
returns c =
    filled_all c.requires.context.are_kernels c.states.state c.states.lookaheads
    (let e = c.count-state-end.ensures.count in let past = c.states-test.false in omega (arith, e, past)) c.states.invariant.filled
