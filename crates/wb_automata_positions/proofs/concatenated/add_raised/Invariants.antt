use Rattle.std.proofs.Common.{◌≡◌, ◌++◌, length, map, take}
use Rattle.wb_automata_positions.specs.Inner.Concatenated.{raised}
use Rattle.wb_automata_positions.proofs.concatenated.add_raised.Given as goal

abbrev pub invariant-loop-node : goal.invariant-loop-node
invariant-loop-node l = l.nodes.items ≡ l.fn.nodes.items ++ map (raised (length l.fn.nodes.items)) (take l.node-index l.more)
