use Rattle.std.proofs.Common.{take}
use Rattle.std.specs.List.{AllZip}
use Rattle.wb_names_rows.specs.Moves.{IsNodeNow}
use Rattle.wb_names_rows.proofs.moves.moved_nodes.Given as goal

abbrev pub invariant-loop-node : goal.invariant-loop-node
invariant-loop-node l = AllZip (IsNodeNow l.moves) (take l.node-index l.nodes) l.made.items
