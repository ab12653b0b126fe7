use Rattle.std.proofs.Common.{arith, length}
use Rattle.wb_automata_positions.specs.Inner.Concatenated.{raised}
use Rattle.wb_automata_positions.proofs.JoinLemmas.{parts_fit}
use Rattle.wb_automata_positions.proofs.concatenated.add_raised.Goals as goal

pub raised-requires-clause-parts : goal.raised-requires-clause-parts
raised-requires-clause-parts c = let s = c.loop-node.nodes.small in let o = c.loop-node.nodes.ok in parts_fit c.args.nodes.now.items
    c.args.more.now c.loop-node.nodes.items
    (raised (length c.args.nodes.now.items)) c.loop-node.node-index c.loop-node.invariant c.requires.parts (omega arith) (omega arith)
