use Rattle.std.proofs.Common.{◌≡◌, map, take}
use Rattle.wb_compose_theory_attributes.specs.Rows.{new_node}
use Rattle.wb_compose_attributes.specs.NewNumbers.{map_of}
use Rattle.wb_compose_attributes.proofs.expression.new_nodes.Given as goal

abbrev pub invariant-nodes : goal.invariant-nodes
invariant-nodes l = l.made.items ≡ map (new_node (map_of l.numbers) 0) (take l.node-index l.nodes)
