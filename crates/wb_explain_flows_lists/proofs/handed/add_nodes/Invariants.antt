use Rattle.wb_explain_flows_lists.specs.Inner.Spots.{KeepsLacking}
use Rattle.wb_explain_flows_lists.proofs.handed.add_nodes.Given as goal

abbrev pub invariant-nodes : goal.invariant-nodes
invariant-nodes l = KeepsLacking l.spot.scope.now.attributes.now l.fn.found.items l.found.items
