use Rattle.std.proofs.Common.{take}
use Rattle.std.specs.List.{AllZip}
use Rattle.wb_names_rows.specs.Nodes.{IsFoundNode}
use Rattle.wb_names_rows.proofs.node.written_nodes.Given as goal

abbrev pub invariant-loop-node : goal.invariant-loop-node
invariant-loop-node l = AllZip (IsFoundNode l.scope l.labels) (take l.node-index l.nodes) l.made.items
