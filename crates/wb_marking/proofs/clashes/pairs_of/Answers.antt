use Rattle.std.proofs.Common.{arith}
use Rattle.wb_marking.proofs.ClashLemmas.{gathered_all, gathered_more, gathered_none}
use Rattle.wb_marking.proofs.clashes.pairs_of.Goals as goal

pub terminals-init : goal.terminals-init
terminals-init c = gathered_none c.args.scanned.now.parts.now _ c.new-pairs.ensures.items

pub terminals-preserved : goal.terminals-preserved
terminals-preserved c = gathered_more c.args.scanned.now.parts.now c.terminals.pairs.items c.add_terminal.new.pairs.items c.terminals.number
    c.terminals.invariant c.in_ok-add_terminal.ensures.gathers c.in_ok-add_terminal.ensures.lists

pub returns : goal.returns
returns c = gathered_all c.args.scanned.now.parts.now c.terminals.pairs.items c.terminals.number (omega arith) c.terminals.invariant
