use Rattle.std.proofs.Common.{◌≡◌, ◌++◌, take}
use Rattle.std.specs.List.{flat_map}
use Rattle.wb_names_theory.specs.Uses.{node_uses}
use Rattle.wb_names_lists.proofs.uses.add_nodes.Given as goal

abbrev pub invariant-nodes : goal.invariant-nodes
invariant-nodes l = l.out.items ≡ l.fn.out.items ++ flat_map (node_uses l.production) (take l.node-index l.nodes)
